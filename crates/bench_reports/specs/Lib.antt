pub mod NodeSearch
-- Passed on to the crates above: from_NAME is all that the crate NAME has in its folder of this name.
pub use Rattle.grow_gen.specs as from_grow_gen
pub use Rattle.bench_outcomes.specs.from_tight_cuts as from_tight_cuts
pub use Rattle.bench_outcomes.specs.from_tree_check as from_tree_check
pub use Rattle.bench_outcomes.specs.from_bench_tasks as from_bench_tasks
pub use Rattle.bench_outcomes.specs as from_bench_outcomes
