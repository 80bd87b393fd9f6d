-- What the proofs use.
mod Answered
