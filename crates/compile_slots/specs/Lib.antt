pub mod Parts
pub mod Cases
pub mod Same
pub mod Context
pub mod Slots
