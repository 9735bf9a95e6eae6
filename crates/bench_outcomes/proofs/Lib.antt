pub mod DerivationTexts
pub mod EarSteps
pub mod GrownSizes
pub mod Settled
-- Passed on to the crates above: from_NAME is all that the crate NAME has in its folder of this name.
pub use Rattle.tree_check.proofs as from_tree_check
