pub mod Faithful
pub mod Lists
pub mod Cases
