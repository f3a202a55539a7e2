pub mod Holding
pub mod RunForm
