pub mod Differ
pub mod Enumerations
pub mod ModuleLeaves
