pub mod MoveWords
pub mod MovesReadBack
pub mod MovesRead
pub mod TextSoFar
-- Passed on to the crates above: from_NAME is all that the crate NAME has in its folder of this name.
pub use Rattle.counting.proofs as from_counting
pub use Rattle.tree_text.proofs.from_tree_core as from_tree_core
pub use Rattle.tree_text.proofs as from_tree_text
