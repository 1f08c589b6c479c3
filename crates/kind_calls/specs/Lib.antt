pub mod Kinds
pub mod Conversions
