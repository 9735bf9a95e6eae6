pub mod Separations
pub mod CutPairs
pub mod PairSearch
pub mod PairRows
pub mod PairShores
pub mod SeparationFacts
pub mod Flooding
pub mod Leaves
pub mod FirstSeparations
pub mod Domination
-- Passed on to the crates above: from_NAME is all that the crate NAME has in its folder of this name.
pub use Rattle.barrier_kit.proofs as from_barrier_kit
