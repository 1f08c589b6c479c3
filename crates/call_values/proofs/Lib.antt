pub mod Statuses
pub mod Written
pub mod GivenParts
pub mod BuiltLists
pub mod GivenElements
pub mod FurtherRead
