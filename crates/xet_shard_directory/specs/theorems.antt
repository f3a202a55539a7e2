pub mod Apart
pub mod Syncing
