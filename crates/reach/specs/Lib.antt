pub mod Weights
pub mod Dfs
pub mod Stacks
