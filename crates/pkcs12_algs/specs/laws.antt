pub mod Pbes1
pub mod Pbes2
pub mod TableLaws
