pub mod Firsts
pub mod KeyIds
pub mod NotEmpty
