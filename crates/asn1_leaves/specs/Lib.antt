pub mod Integers
pub mod Strings
pub mod Times
pub mod Asn1
pub mod laws
