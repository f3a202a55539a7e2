pub mod Boundary
pub mod Cutting
