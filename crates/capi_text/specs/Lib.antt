pub mod Calls
pub mod Arrays
pub mod Round
