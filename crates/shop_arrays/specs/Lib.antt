pub mod Arrays
pub mod Back
pub mod Slots
pub mod Rows
