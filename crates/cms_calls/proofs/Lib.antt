pub mod ContentRows
pub mod TrustRows
pub mod BuiltAttributes
pub mod BuiltSigned
pub mod BuiltIndirect
pub mod BuiltRecipient
pub mod BuiltEnveloped
