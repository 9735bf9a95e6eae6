pub mod Shapes
pub mod Derivations
pub mod Places
pub mod Leaves
pub mod View
pub mod Moves
pub mod LeafMaps
pub mod MoveView
pub mod Turns
pub mod Exchanges
pub mod Tallies
pub mod Common
-- Passed on to the crates above: from_NAME is all that the crate NAME has in its folder of this name.
pub use Rattle.contraction.specs as from_contraction
