pub mod Modes
pub mod Lines
pub mod Engine
pub mod Steps
pub mod Verdicts
pub mod laws
