pub mod Answered
pub mod Asked
pub mod Cleaned
pub mod Made
pub mod Parsing
pub mod Report
pub mod Steps
pub mod Stops
