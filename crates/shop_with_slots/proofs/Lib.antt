-- What the proofs use.
mod Fill
