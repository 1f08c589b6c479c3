pub mod Pkixtsp
