pub mod Bits
pub mod Bmp
pub mod BmpLaws
pub mod BmpTexts
pub mod CharSet
pub mod Ia5
pub mod Octets
pub mod laws
