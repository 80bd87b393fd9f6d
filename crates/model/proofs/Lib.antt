pub mod Cases
pub mod Laws
pub mod Demand
pub mod BlockCases
pub mod BitCases
pub mod FlagCases
