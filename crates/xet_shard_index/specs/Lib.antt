pub mod Different
pub mod Places
pub mod Runs
pub mod internal
pub mod theorems
