pub mod Nulls
pub mod ReadBack
pub mod Texts
