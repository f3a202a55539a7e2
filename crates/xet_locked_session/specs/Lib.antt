pub mod Session
pub mod Shared
pub mod Passes
pub mod Coding
pub mod internal
pub mod Passing
pub mod PassingCoding
pub mod theorems
