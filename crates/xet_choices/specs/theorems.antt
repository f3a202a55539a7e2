pub mod Calls
pub mod Choices
pub mod Entries
pub mod Folds
pub mod Guard
pub mod Ranges
pub mod Sums
