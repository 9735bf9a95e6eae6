pub mod Isomorphisms
pub mod Exchange
pub mod Corners
pub mod SameLeaf
pub mod Pairings
pub mod Scripts
pub mod Turning
pub mod Common
-- Passed on to the crates above: from_NAME is all that the crate NAME has in its folder of this name.
pub use Rattle.tree_core.specs.from_contraction as from_contraction
