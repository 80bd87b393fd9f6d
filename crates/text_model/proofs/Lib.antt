pub mod Numbers
pub mod Lines
pub mod Inverse
pub mod Reasons
pub mod Fits
pub mod Parsed
pub mod Cases
