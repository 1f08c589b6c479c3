pub mod Texts
pub mod Escaping
pub mod Strings
pub mod Attributes
pub mod Encoded
pub mod Unescaping
pub mod Decimals
