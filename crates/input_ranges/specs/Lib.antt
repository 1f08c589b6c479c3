pub mod Ranges
pub mod Failures
pub mod laws
