pub mod Octets
pub mod Steps
pub mod DerTests
pub mod Answered
