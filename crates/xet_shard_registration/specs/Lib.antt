pub mod Refreshing
pub mod Registering
pub mod internal
