pub mod VertexPairs
pub mod AddedEdges
pub mod Equivalences
-- Passed on to the crates above: from_NAME is all that the crate NAME has in its folder of this name.
pub use Rattle.barrier_kit.specs.from_match_search as from_match_search
pub use Rattle.barrier_kit.specs.from_match_core as from_match_core
