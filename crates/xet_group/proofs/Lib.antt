mod Fourths
mod Woven
mod Blocks
mod Counts
mod Tallies
