pub mod Arguments
pub mod internal
