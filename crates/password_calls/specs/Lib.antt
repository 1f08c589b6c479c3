pub mod Passwords
pub mod Built
pub mod NotBuilt
pub mod Others
pub mod WrongParts
