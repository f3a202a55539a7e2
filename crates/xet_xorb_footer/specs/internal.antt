pub mod Items
pub mod Joining
pub mod Machine
pub mod Places
pub mod Errors
pub mod Putting
