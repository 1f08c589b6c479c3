pub mod Ocsp201388
pub mod laws
