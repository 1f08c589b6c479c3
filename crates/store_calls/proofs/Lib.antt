pub mod BagRows
pub mod Levels
pub mod GivenBags
pub mod BuiltBags
pub mod BuiltContents
pub mod BuiltStores
