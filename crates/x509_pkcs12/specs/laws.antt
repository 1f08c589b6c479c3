pub mod Agree
pub mod AuthSafes
pub mod MacOctets
pub mod MacRoutes
pub mod Pfxs
pub mod Utf16
