pub mod Elements
pub mod Encodings
