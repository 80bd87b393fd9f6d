-- What the proofs of several functions use.
mod Marking
mod Sifting
mod Walking
mod Parsing
pub mod Members
pub mod Companions
pub mod FilterCases
pub mod ChainLaws
pub mod Frames
pub mod Negations
