pub mod Calls
pub mod Passed
