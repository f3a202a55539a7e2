mod Growing
mod Piecewise
mod Passes
mod Clauses
