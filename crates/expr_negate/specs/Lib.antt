pub mod Turns
pub mod InPlace
