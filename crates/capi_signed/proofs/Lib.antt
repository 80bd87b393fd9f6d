-- What the proofs use.
mod Told
