pub mod Due
pub mod Importing
pub mod internal
