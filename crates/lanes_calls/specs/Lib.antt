pub mod Record
pub mod Delivered
