pub mod Fronts
pub mod Headers
pub mod Elements
pub mod NumberOctets
