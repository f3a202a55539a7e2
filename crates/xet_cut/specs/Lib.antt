pub mod Chunking
pub mod Generator
pub mod Limits
pub mod Partitions
pub mod Streams
pub mod theorems
pub mod internal
