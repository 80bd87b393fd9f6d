pub mod Codes
pub mod Laws
pub mod Subjects
