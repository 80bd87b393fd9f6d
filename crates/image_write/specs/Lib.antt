-- The writer's promises and the laws that carry them. Assumes nothing.
pub mod Nodes
pub mod Commands
pub mod Blocks
pub mod Loop
pub mod Call
pub mod Lengths
