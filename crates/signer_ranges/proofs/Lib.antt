pub mod Rows
pub mod Attributes
pub mod Exact
pub mod InRanges
pub mod Between
pub mod FoundParts
pub mod Digests
pub mod OneSigner
