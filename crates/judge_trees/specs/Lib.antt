-- The specifications of `trees` and the laws that carry them. Assumes nothing.
pub mod Trees
pub mod Levels
pub mod Codes
pub mod Grown
