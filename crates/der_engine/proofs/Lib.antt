pub mod Comparing
pub mod Running
