pub mod Braces
-- Passed on to the crates above: from_NAME is all that the crate NAME has in its folder of this name.
pub use Rattle.matching_digraph.specs as from_matching_digraph
pub use Rattle.brick_kit.specs.from_separation_kit as from_separation_kit
pub use Rattle.brick_kit.specs as from_brick_kit
