pub mod Merging
pub mod Sizes
