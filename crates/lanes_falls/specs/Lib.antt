pub mod Marking
pub mod Sweeps
