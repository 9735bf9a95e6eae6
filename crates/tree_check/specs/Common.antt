-- The definitions of this crate, passed on from one place to the crates above. Declares nothing.
pub use Rattle.tree_check.specs.Refusals.{Why, not_blocks, even, trivial, not_tight, not_leaf, why_number, without_matching, CrossesAt, BreaksCut, BreaksLeaf, HasShores, IsRefusedAt, IsRefused}
pub use Rattle.tree_check.specs.Judgements.{why_of, IsJudgement}
pub use Rattle.tree_check.specs.Leaves.{IsLeafOfKind}
pub use Rattle.tree_check.specs.KnownPlaces.{IsLeafOf}
pub use Rattle.tree_check.specs.Scans.{IsScannedAt, IsScanResult, HasFewKinds, sum_of}
pub use Rattle.tree_check.specs.SoundMoves.{IsMadeBy, IsSwitchOfDerivation, IsBlock}
pub use Rattle.tree_check.specs.Replays.{IsStuckAt, IsRefusedMoveAt, IsReplay, IsMoved}
