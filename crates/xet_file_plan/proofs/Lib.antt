mod Changing
mod Joins
mod Keeping
mod LastSegment
