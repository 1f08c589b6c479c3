pub mod Lines
pub mod Within
