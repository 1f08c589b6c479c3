pub mod Known
pub mod Places
pub mod Moved
pub mod Held
