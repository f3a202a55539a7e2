pub mod Collections
pub mod Paths
pub mod Registered
