pub mod MacPlaces
mod Utf16Units
