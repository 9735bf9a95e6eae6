pub mod Places
pub mod TreeFormat
pub mod PickFormat
pub mod Writing
pub mod SoFar
pub mod Common
-- Passed on to the crates above: from_NAME is all that the crate NAME has in its folder of this name.
pub use Rattle.graph_core.specs.from_line_text as from_line_text
pub use Rattle.tree_core.specs as from_tree_core
