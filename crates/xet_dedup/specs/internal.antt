pub mod Batches
pub mod Counting
pub mod Joining
pub mod Walking
