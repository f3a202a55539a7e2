pub mod Nothing
pub mod Made
pub mod Guarded
pub mod Returned
pub mod Kept
