pub mod Faults
pub mod Shops
pub mod Told
pub mod Numbers
pub mod Lines
pub mod Whole
pub mod Back
