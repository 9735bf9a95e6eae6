pub mod FaultCounts
pub mod Pieces
pub mod Writes
