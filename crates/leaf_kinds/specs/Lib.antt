pub mod LeafKinds
-- Passed on to the crates above: from_NAME is all that the crate NAME has in its folder of this name.
pub use Rattle.tight_cuts.specs as from_tight_cuts
