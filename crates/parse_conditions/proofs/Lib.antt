-- What the proofs of several functions use.
mod Nodes
mod Reading
