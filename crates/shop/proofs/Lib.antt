pub mod All
pub mod Limits
pub mod Sheets
pub mod Known
pub mod Places
