pub mod BmpLaws
pub mod StringLaws
