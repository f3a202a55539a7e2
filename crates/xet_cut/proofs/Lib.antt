mod Boundaries
mod Outputs
mod Parts
mod Splitting
mod Steps
