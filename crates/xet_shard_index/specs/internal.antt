pub mod Inserting
pub mod Items
pub mod Lengths
pub mod Starts
