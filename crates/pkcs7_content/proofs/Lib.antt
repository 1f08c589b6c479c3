pub mod Fits
pub mod LooseContents
