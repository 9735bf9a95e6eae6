pub mod Subsets
pub mod Tries
pub mod OddSides
pub mod Reaching
pub mod ReachedEdges
