pub mod Balance
pub mod TightShores
pub mod Reached
pub mod Shores
pub mod Spans
pub mod Floods
pub mod MatchedArcs
pub mod ArcRows
-- Passed on to the crates above: from_NAME is all that the crate NAME has in its folder of this name.
pub use Rattle.barrier_kit.proofs as from_barrier_kit
