pub mod Contents
pub mod Copies
pub mod Inputs
