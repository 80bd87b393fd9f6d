-- The promises of expressions and the laws that carry them. Assumes nothing.
pub mod Told
pub mod Pieces
pub mod Nodes
