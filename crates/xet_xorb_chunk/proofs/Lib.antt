mod Grammar
mod Prefixes
mod Checks
mod Blocks
mod Tallies
mod Gathered
mod Completed
mod Absorbed
