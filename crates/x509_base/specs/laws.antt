pub mod AlgorithmChoiceLaws
pub mod AlgorithmLaws
