pub mod Digraph
pub mod MatchedPairs
pub mod Digraphs
-- Passed on to the crates above: from_NAME is all that the crate NAME has in its folder of this name.
pub use Rattle.barrier_kit.specs as from_barrier_kit
