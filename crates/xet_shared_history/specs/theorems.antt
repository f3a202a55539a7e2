pub mod Prefixes
pub mod Owned
pub mod Parting
