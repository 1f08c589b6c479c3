pub mod Appending
pub mod Buffers
pub mod Comparing
pub mod Sinks
pub mod Writers
