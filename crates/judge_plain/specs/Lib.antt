-- The specifications of `plain` and the laws that carry them. Assumes nothing.
pub mod Chain
pub mod Counted
pub mod Commands
pub mod Blocks
pub mod Whole
