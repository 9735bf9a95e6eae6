pub mod Commands
pub mod Asked
pub mod Files
pub mod FilesSeen
pub mod Tasks
pub mod Loading
pub mod Loads
pub mod Reads
pub mod Carried
pub mod Answered
pub mod Sized
pub mod Common
-- Passed on to the crates above: from_NAME is all that the crate NAME has in its folder of this name.
pub use Rattle.grow_gen.specs as from_grow_gen
pub use Rattle.decomposer.specs as from_decomposer
pub use Rattle.ear_text.specs.from_ear_core as from_ear_core
pub use Rattle.graph_text.specs as from_graph_text
pub use Rattle.graph6_text.specs as from_graph6_text
pub use Rattle.move_text.specs.from_tree_text as from_tree_text
pub use Rattle.move_text.specs as from_move_text
pub use Rattle.ear_text.specs as from_ear_text
