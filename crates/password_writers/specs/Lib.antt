pub mod Given
pub mod Values
pub mod Written
pub mod Holders
