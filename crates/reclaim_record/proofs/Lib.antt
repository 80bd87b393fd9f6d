pub mod Demand
pub mod Compiles
pub mod Checks
pub mod Stands
pub mod Moved
pub mod Freed
pub mod Packed
