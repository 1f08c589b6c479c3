pub mod BagEqual
pub mod BagLevels
pub mod BagWalkLaws
pub mod BagsLaws
pub mod Oids
pub mod SelectionLaws
