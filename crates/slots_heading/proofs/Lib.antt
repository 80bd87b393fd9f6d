pub mod RoundTrip
pub mod Steps
