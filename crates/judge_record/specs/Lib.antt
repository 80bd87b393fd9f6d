-- The judge's promises and the laws that carry them. Assumes nothing.
pub mod Stages
pub mod Links
pub mod Commands
pub mod Loop
pub mod CommandList
pub mod Blocks
pub mod Whole
