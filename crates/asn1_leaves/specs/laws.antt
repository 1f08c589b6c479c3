pub mod Integers
pub mod Strings
pub mod Times
