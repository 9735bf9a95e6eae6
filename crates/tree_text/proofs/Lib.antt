pub mod ShoreLists
pub mod TextSoFar
pub mod TreeReadBack
pub mod TreeRead
-- Passed on to the crates above: from_NAME is all that the crate NAME has in its folder of this name.
pub use Rattle.graph_core.proofs.from_line_text as from_line_text
pub use Rattle.tree_core.proofs as from_tree_core
