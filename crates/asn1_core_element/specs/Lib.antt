pub mod Element
pub mod Position
pub mod Reading
pub mod Words
pub mod Numbers
pub mod laws
