pub mod Calls
pub mod Ranges
pub mod Choices
pub mod Sums
pub mod theorems
