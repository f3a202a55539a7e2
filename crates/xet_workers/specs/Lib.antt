pub mod Workers
pub mod Cleaning
pub mod internal
