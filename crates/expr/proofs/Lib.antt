pub mod Below
pub mod Signed
