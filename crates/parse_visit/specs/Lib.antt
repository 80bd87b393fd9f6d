pub mod LastIf
pub mod Entries
pub mod State
pub mod Joins
pub mod Ways
pub mod Slots
pub mod Entering
