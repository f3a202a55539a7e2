mod Boundaries
mod Drawn
