pub mod BitContents
pub mod Encodings
