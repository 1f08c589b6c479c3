pub mod BitWrites
pub mod BmpReads
pub mod BmpTextReads
pub mod Ia5Reads
