pub mod Turns
pub mod Loop
pub mod Starts
