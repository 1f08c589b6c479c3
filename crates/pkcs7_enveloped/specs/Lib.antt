pub mod Versions
pub mod Recipients
pub mod Enveloped
pub mod Descriptors
pub mod laws
