mod Worths
pub mod Values
