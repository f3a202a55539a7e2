mod Sums
mod Words
mod Places
mod Runs
