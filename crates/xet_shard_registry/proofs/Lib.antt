mod Collecting
mod Keys
mod Paths
