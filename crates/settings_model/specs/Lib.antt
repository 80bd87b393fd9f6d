pub mod Settings
pub mod Closed
