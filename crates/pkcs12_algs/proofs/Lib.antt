pub mod AlgorithmAlternatives
pub mod KnownAlgorithms
