pub mod Parts
pub mod Tests
pub mod Shown
pub mod Accepted
pub mod Agree
pub mod Checked
