pub mod ContentsReads
mod Walked
mod Kept
