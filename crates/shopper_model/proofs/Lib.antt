pub mod Room
pub mod Runs
pub mod Again
pub mod Buys
pub mod Steps
pub mod Shopped
