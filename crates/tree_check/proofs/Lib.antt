pub mod CutRules
pub mod LeafRules
pub mod PlacesInside
pub mod KnownValues
pub mod FirstRefusals
pub mod ThreeAnswers
pub mod CountedLeaves
pub mod Scanning
pub mod MovesFit
pub mod SoundMoves
pub mod ReplaySteps
pub mod ReplayAnswers
-- Passed on to the crates above: from_NAME is all that the crate NAME has in its folder of this name.
pub use Rattle.graph_core.proofs.from_counting as from_counting
pub use Rattle.tight_cuts.proofs as from_tight_cuts
pub use Rattle.move_laws.proofs as from_move_laws
