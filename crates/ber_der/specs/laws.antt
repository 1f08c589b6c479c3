pub mod BerLaws
pub mod Counts
pub mod DerLaws
