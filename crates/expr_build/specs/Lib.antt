pub mod Put
pub mod Tests
pub mod Laws
pub mod Codes
pub mod Joined
pub mod AcquiredLaws
