pub mod Signers
pub mod Certificates
pub mod Lists
pub mod Parts
pub mod Macs
