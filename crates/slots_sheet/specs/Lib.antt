pub mod Outcome
pub mod Told
pub mod Steps
pub mod Whole
pub mod Checked
