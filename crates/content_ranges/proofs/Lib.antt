pub mod ContentPlaces
pub mod Parts
pub mod TrustParts
pub mod EntryPlaces
