pub mod Copies
pub mod Inputs
pub mod Contents
pub mod MacParts
pub mod SignedParts
pub mod StoreParts
pub mod Parts
pub mod laws
