pub mod FoundOnce
pub mod InOrder
pub mod Mapped
pub mod NotEncoded
pub mod Shuffled
