pub mod Roots
pub mod Words
pub mod Queue
pub mod Pieces
pub mod Follow
pub mod Marks
pub mod Judged
