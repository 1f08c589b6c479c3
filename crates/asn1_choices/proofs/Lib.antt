pub mod OidReads
pub mod NestedReads
pub mod DefinedByReads
pub mod ByTagReads
