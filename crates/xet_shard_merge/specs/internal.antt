pub mod Grouping
pub mod Keeping
pub mod Order
pub mod Progressing
pub mod Reading
