pub mod Shapes
pub mod Sets
pub mod Codes
pub mod Slots
pub mod SetLaws
pub mod Good
