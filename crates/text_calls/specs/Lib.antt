pub mod Names
pub mod Integers
pub mod ObjectNames
