pub mod Pkix1Explicit88
pub mod Pkix1Implicit88
pub mod laws
