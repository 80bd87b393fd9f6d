pub mod Fields
pub mod Changed
pub mod Seen
pub mod Cases
