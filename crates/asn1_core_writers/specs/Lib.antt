pub mod Writers
pub mod Comparing
pub mod Sinks
pub mod Buffers
pub mod Appending
pub mod Texts
pub mod laws
