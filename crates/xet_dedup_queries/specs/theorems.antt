pub mod Counting
pub mod Growing
pub mod Queries
pub mod Stopping
