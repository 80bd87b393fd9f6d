pub mod Steps
pub mod RunIn
