pub mod Calendar
pub mod TimeContents
pub mod Grammar
pub mod Reading
pub mod Times
pub mod laws
