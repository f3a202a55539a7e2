pub mod Registered
pub mod Written
