-- The bytes of a heading, writing them as a call, and that reader and writer undo one another. Assumes nothing.
pub mod Bytes
pub mod Steps
