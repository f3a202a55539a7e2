pub mod Single
pub mod Coding
pub mod internal
