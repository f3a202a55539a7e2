pub mod Adding
pub mod Entries
pub mod Forms
pub mod Parts
pub mod Placings
