pub mod Core
pub mod Found
pub mod History
pub mod Sound
pub mod Lasting
pub mod Interleaving
pub mod Coding
pub mod theorems
