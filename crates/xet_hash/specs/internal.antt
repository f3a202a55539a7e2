pub mod Chunks
pub mod Lanes
