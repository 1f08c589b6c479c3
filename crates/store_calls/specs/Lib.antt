pub mod Bags
pub mod Levels
pub mod BuiltBags
pub mod GivenBags
pub mod BuiltContents
pub mod MacParts
pub mod BuiltStores
