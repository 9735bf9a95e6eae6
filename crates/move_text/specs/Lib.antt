pub mod MoveFormat
pub mod Writing
pub mod Common
-- Passed on to the crates above: from_NAME is all that the crate NAME has in its folder of this name.
pub use Rattle.counting.specs as from_counting
pub use Rattle.tree_text.specs.from_tree_core as from_tree_core
pub use Rattle.tree_text.specs as from_tree_text
