pub mod Attributes
pub mod Refusals
