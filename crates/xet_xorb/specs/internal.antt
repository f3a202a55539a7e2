pub mod Checking
pub mod Copying
