pub mod KindLists
pub mod Asking
