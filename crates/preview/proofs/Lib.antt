pub mod Codes
pub mod Acquired
pub mod Pairs
pub mod Checks
