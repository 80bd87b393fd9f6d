pub mod Answer
pub mod Stages
pub mod Laws
