pub mod Elements
pub mod Enveloped
pub mod Recipients
pub mod Values
