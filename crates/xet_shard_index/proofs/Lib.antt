pub mod Between
pub mod Counting
pub mod Lengths
pub mod Merging
pub mod Places
pub mod Searching
pub mod Sorting
pub mod Without
