-- The definitions of this crate, passed on from one place to the crates above. Declares nothing.
pub use Rattle.separation_kit.specs.SeparationShores.{is_cut_pair, shores_at_pair}
unfoldable pub use Rattle.separation_kit.specs.SeparationShores.{separation_shores, separation_cuts}
pub use Rattle.separation_kit.specs.Pairs.{IsPairIn, is_equivalent_pair, IsFirstInRow, HasNoneInRow}
pub use Rattle.separation_kit.specs.Dominators.{AreBounds, MayStep, AreDominatorCandidates}
pub use Rattle.separation_kit.specs.Cores.{IsLeft, IsSpine, IsCore}
