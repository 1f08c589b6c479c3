pub mod NotEmpty
pub mod Elements
pub mod AllFirsts
pub mod SomeValues
pub mod ByOctets
