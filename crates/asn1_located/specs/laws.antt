pub mod Finding
pub mod LocatedLaws
pub mod WalkLaws
