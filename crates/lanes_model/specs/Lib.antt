pub mod Falls
pub mod Walk
pub mod Flat
pub mod Lanes
