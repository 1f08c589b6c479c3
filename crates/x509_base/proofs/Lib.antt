pub mod AlgorithmReads
pub mod AttributesByOid
pub mod Units
