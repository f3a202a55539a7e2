mod Due
mod Growing
mod InOrder
mod LoadedPaths
mod Newest
