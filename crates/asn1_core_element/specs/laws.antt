pub mod Digits
pub mod ElementLaws
pub mod NumberLaws
