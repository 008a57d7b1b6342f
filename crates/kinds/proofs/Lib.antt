pub mod Groups
pub mod Normals
pub mod Rows
pub mod Steadies
