-- What the calls that read and write a stage's heading stand for, and what follows from their promises. Assumes nothing.
pub mod Answers
pub mod Told
pub mod Calls
