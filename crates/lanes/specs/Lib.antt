pub mod Standing
pub mod Walks
pub mod Calls
pub mod Alone
