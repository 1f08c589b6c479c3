pub mod Hashed
pub mod KeyIdentifiers
