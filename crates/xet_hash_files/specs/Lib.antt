pub mod Hashing
pub mod internal
