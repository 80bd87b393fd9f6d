pub mod Gathered
pub mod Listing
pub mod Gathers
pub mod ListingLaws
