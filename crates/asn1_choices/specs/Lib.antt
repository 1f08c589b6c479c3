pub mod Chosen
pub mod Tables
pub mod ByOid
pub mod DefinedBy
pub mod DefinedByLaws
pub mod KnownOrRaw
pub mod laws
