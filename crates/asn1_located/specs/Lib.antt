pub mod Places
pub mod WalkLaws
pub mod Finding
pub mod Routes
pub mod laws
