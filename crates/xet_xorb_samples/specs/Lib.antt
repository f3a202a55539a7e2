pub mod Samples
pub mod internal
