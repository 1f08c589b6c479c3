pub mod Contents
pub mod TrustLists
pub mod BuiltAttributes
pub mod BuiltSigned
pub mod GivenSigned
pub mod BuiltIndirect
pub mod BuiltRecipient
pub mod BuiltEnveloped
