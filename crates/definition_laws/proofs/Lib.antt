pub mod BlockWords
pub mod Covering
pub mod FirstPairs
pub mod Leaders
pub mod MatchingSizes
pub mod MatchingWords
pub mod Reasons
pub mod ThreeSets
pub mod ListOrders
-- Passed on to the crates above: from_NAME is all that the crate NAME has in its folder of this name.
pub use Rattle.barrier_kit.proofs as from_barrier_kit
