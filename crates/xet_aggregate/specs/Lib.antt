pub mod Aggregate
pub mod Metrics
pub mod internal
pub mod theorems
