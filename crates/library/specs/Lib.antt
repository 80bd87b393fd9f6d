pub mod Delivered
pub mod Files
