-- The specifications of `held` and the laws that carry them. Assumes nothing.
pub mod Ranges
pub mod Runs
