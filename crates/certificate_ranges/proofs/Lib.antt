pub mod PartPlaces
pub mod KeyPlaces
pub mod Indices
pub mod ExtensionPlaces
