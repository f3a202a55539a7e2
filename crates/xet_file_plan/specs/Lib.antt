pub mod Kept
pub mod Moves
pub mod Placed
pub mod Plan
pub mod internal
pub mod theorems
