pub mod ByTag
pub mod DefinedByLaws
pub mod KnownOrRaw
pub mod Tables
