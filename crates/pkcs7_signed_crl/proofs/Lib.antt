pub mod ByTag
