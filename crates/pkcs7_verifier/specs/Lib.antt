pub mod Heads
pub mod KeyIdentifiers
pub mod Matches
pub mod Hashed
pub mod laws
