pub mod Elements
pub mod Exits
pub mod FirstOf
pub mod Pieces
pub mod Written
