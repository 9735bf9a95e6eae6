pub mod Sizes
pub mod GivenFacts
pub mod ScriptMoves
pub mod ScriptTexts
pub mod PairLines
pub mod Reported
pub mod RefusalsTold
pub mod StuckMoves
pub mod NestedShores
pub mod NodeSearches
pub mod MadeMoves
pub mod FaultsPlaced
-- Passed on to the crates above: from_NAME is all that the crate NAME has in its folder of this name.
pub use Rattle.bench_outcomes.proofs.from_tree_check as from_tree_check
pub use Rattle.bench_outcomes.proofs as from_bench_outcomes
