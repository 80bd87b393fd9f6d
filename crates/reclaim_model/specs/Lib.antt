pub mod Rename
pub mod Reclaim
pub mod Changes
