pub mod Codes
pub mod Shown
pub mod Conducts
pub mod Facts
pub mod RefusalLines
pub mod Uncovered
pub mod Checks
pub mod EarChecks
pub mod Replays
pub mod StuckMoves
pub mod Comparisons
pub mod Growths
pub mod FaultPlaces
pub mod Outcome
pub mod Success
pub mod Refusing
pub mod Common
-- Passed on to the crates above: from_NAME is all that the crate NAME has in its folder of this name.
pub use Rattle.tree_check.specs.from_tight_cuts as from_tight_cuts
pub use Rattle.bench_tasks.specs.from_decomposer as from_decomposer
pub use Rattle.tree_check.specs as from_tree_check
pub use Rattle.report_text.specs as from_report_text
pub use Rattle.bench_tasks.specs as from_bench_tasks
