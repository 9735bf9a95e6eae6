pub mod Partition
pub mod Contracted
pub mod Pairs
pub mod LeastEdges
pub mod EdgeRows
