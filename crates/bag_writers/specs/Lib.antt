pub mod GivenAttributes
pub mod Given
pub mod Values
pub mod Written
