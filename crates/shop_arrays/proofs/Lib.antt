-- What the proofs of several functions use.
mod Items
pub mod Placed
mod Puts
mod Sorts
