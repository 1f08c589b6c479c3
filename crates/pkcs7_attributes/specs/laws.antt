pub mod Attributes
pub mod SignedSets
pub mod UnsignedAttributes
