pub mod Statuses
pub mod Ranges
pub mod Given
pub mod Read
pub mod BuiltLists
pub mod Elements
pub mod Further
