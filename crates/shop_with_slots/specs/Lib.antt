pub mod Twenty
pub mod Slots
