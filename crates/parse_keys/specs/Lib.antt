pub mod Entries
pub mod Turns
pub mod Search
pub mod Small
pub mod Reads
pub mod Tables
pub mod Sheets
pub mod Growth
