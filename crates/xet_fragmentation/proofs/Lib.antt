mod Growing
mod Queries
