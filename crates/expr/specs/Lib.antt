pub mod Tree
pub mod Value
pub mod Requirement
