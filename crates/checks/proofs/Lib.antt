pub mod Checks
pub mod Most
