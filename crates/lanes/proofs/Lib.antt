pub mod Saves
pub mod Left
