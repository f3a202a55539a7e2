pub mod Contents
pub mod Groups
pub mod Merging
pub mod Records
pub mod internal
pub mod theorems
