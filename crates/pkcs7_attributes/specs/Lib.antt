pub mod Attributes
pub mod NamedAttributes
pub mod SignedSets
pub mod AttributesEqual
pub mod UnsignedAttributes
pub mod laws
