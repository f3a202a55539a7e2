pub mod FileHasher
pub mod Sources
pub mod Splitting
