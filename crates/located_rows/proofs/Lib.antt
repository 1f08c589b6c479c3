pub mod RowLaws
pub mod RowSteps
