pub mod BagTexts
pub mod NotEncoded
pub mod Ordered
pub mod Safes
pub mod Surrogates
