pub mod Adding
pub mod Coding
pub mod Manager
pub mod internal
