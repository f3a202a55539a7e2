pub mod Digests
pub mod OfLeaves
pub mod Determined
