pub mod Logs
pub mod Listings
pub mod Runs
