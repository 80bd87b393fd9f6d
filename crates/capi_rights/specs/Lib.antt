pub mod Words
pub mod Stands
pub mod Calls
pub mod Hidden
