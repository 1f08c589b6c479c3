pub mod Stamps
pub mod Parcels
pub mod Labels
