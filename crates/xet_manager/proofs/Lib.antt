pub mod Cutting
pub mod Rooms
mod Listing
mod Opening
