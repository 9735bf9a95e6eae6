pub mod MatchedFours
pub mod UnmatchedFours
pub mod Braces
pub mod QuickBricks
-- Passed on to the crates above: from_NAME is all that the crate NAME has in its folder of this name.
pub use Rattle.matching_digraph.proofs as from_matching_digraph
pub use Rattle.brick_kit.proofs.from_separation_kit as from_separation_kit
pub use Rattle.brick_kit.proofs as from_brick_kit
