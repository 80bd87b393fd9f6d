pub mod Held
pub mod Differs
pub mod Shifted
pub mod Settles
