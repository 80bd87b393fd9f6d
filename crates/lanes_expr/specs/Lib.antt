pub mod Lanes
pub mod Each
