pub mod Buffering
pub mod Joining
pub mod Seeing
