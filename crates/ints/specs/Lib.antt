-- Laws of the definitions of signed numbers that `model` has.
pub mod Bits
pub mod Wrap
