pub mod Sizes
pub mod Tests
pub mod Blocks
pub mod Room
pub mod Slots
pub mod Most
