pub mod Laws
pub mod Cases
pub mod Demand
