pub mod Answer
pub mod Checks
pub mod Compiled
pub mod Takes
pub mod Going
