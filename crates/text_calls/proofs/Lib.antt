pub mod OidTexts
pub mod Refusals
pub mod Utf16Made
