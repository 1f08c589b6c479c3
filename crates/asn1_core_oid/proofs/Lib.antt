pub mod Arcs
pub mod Groups
pub mod Numerals
pub mod Scan
