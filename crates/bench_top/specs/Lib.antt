pub mod Calm
pub mod Endings
pub mod Fixed
pub mod RoundTrips
pub mod Writes
pub mod Given
pub mod Runs
pub mod Installed
-- Passed on to the crates above: from_NAME is all that the crate NAME has in its folder of this name.
pub use Rattle.mcg6_lines.specs.from_leaf_kinds as from_leaf_kinds
pub use Rattle.mcg6_lines.specs.from_decomposer as from_decomposer
pub use Rattle.mcg6_lines.specs as from_mcg6_lines
pub use Rattle.outside.specs as from_outside
pub use Rattle.bench_reports.specs.from_bench_tasks as from_bench_tasks
pub use Rattle.bench_reports.specs.from_bench_outcomes as from_bench_outcomes
