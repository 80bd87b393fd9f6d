pub mod Findings
pub mod Saves
