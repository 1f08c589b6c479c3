pub mod Characters
pub mod Escapes
pub mod Values
pub mod AttributeTypes
pub mod Names
pub mod Encodings
pub mod Integers
