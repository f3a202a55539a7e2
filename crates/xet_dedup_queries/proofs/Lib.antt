pub mod Changed
pub mod Finding
pub mod Keeping
pub mod Lists
pub mod Missing
pub mod Rounds
