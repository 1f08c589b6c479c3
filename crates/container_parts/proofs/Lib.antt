pub mod MacCounts
pub mod Ranges
pub mod Rows
