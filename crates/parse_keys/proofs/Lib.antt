-- What the proofs of several functions use.
mod Codes
mod Entering
