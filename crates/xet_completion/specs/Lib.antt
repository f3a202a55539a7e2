pub mod Completing
pub mod theorems
pub mod internal
