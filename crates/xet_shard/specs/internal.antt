pub mod Bisection
pub mod LastPlaces
pub mod Merging
pub mod ReaderBytes
