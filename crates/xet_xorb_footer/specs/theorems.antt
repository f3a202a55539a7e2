pub mod Endings
pub mod Prefixes
pub mod LastRead
pub mod Readback
pub mod EncodedLengths
pub mod ReadbackV0
