pub mod Labels
pub mod FourPartitions
pub mod ClassCounts
pub mod JoinedClasses
pub mod ComponentCuts
pub mod BarrierComponents
pub mod AddedEdges
pub mod PairBarriers
pub mod TwoEars
pub mod EdgeForm
pub mod OppositeSides
-- Passed on to the crates above: from_NAME is all that the crate NAME has in its folder of this name.
pub use Rattle.barrier_kit.proofs.from_match_search as from_match_search
pub use Rattle.barrier_kit.proofs.from_match_core as from_match_core
pub use Rattle.barrier_kit.proofs.from_allowed_edges as from_allowed_edges
pub use Rattle.barrier_kit.proofs as from_barrier_kit
