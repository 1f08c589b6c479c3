pub mod PasswordRows
pub mod BuiltParts
pub mod BuiltTexts
pub mod OtherParts
pub mod WrongParts
