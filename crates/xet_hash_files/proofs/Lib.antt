mod Cutting
mod Hashing
mod Joining
mod Taking
