pub mod GearHash
pub mod ChunkEnds
pub mod Complete
pub mod FirstBoundary
pub mod Parts
pub mod Ranges
pub mod Streams
