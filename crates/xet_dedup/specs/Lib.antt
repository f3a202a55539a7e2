pub mod Adding
pub mod Deduping
pub mod Packing
pub mod Placing
pub mod Records
pub mod internal
pub mod theorems
