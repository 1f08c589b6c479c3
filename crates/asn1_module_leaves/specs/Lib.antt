pub mod ModuleLeaves
pub mod Enumerations
pub mod NamedBits
pub mod LeavesEqual
pub mod Asn1
pub mod laws
