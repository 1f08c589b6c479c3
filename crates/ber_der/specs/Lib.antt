pub mod Contexts
pub mod Ber
pub mod Lengths
pub mod BerLaws
pub mod Der
pub mod Counts
pub mod Typed
pub mod laws
