pub mod Written
pub mod Numbers
pub mod Lines
