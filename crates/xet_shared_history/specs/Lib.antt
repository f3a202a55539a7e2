pub mod Seen
pub mod Owned
pub mod internal
pub mod theorems
