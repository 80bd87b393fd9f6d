pub mod Chains
pub mod Filter
pub mod Marks
