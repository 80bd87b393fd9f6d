-- The promises of numbers and the laws that carry them; things read or stored one after the other. Assumes nothing.
pub mod Told
pub mod Answers
pub mod NumberLaws
pub mod Signed
pub mod Lengths
pub mod Stored
pub mod Words
