pub mod Holds
pub mod Rule
pub mod Witness
pub mod Exact
pub mod Shops
pub mod Places
pub mod Told
pub mod Cases
