pub mod Refusals
pub mod Judgements
pub mod Leaves
pub mod KnownPlaces
pub mod Scans
pub mod SoundMoves
pub mod Replays
pub mod Common
-- Passed on to the crates above: from_NAME is all that the crate NAME has in its folder of this name.
pub use Rattle.graph_core.specs.from_counting as from_counting
pub use Rattle.tight_cuts.specs as from_tight_cuts
pub use Rattle.move_laws.specs as from_move_laws
