pub mod Files
pub mod Delivered
