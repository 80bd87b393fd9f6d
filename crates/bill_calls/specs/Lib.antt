pub mod Billable
