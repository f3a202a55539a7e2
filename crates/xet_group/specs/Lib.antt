pub mod Groups
pub mod Histogram
pub mod theorems
pub mod internal
