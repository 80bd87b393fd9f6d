pub mod Subjects
pub mod Combos
pub mod Listed
pub mod Closed
pub mod Prefixes
pub mod Call
pub mod Cases
