pub mod Codes
pub mod Answer
pub mod Slots
pub mod Lefts
pub mod Shops
