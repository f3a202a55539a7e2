pub mod Cases
pub mod Pending
pub mod Made
pub mod Entries
pub mod Growing
pub mod Seeing
pub mod Failing
pub mod Telling
pub mod Since
pub mod Stepped
pub mod Counting
pub mod Guarding
pub mod Returning
mod Fronts
mod Added
mod Carrying
mod Saw
mod Failed
mod Keeping
mod Last
mod Returned
