pub mod Components
pub mod Forest
pub mod Heads
pub mod Parts
pub mod SignerLaws
pub mod SignerLevels
