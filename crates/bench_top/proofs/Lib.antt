pub mod ReadsMade
pub mod Stops
pub mod Refusals
pub mod FileReads
pub mod Conversions
pub mod ScriptReplays
pub mod ReadGraphs
pub mod ReadSimpleGraphs
pub mod LoadedGraphs
pub mod Completeness
pub mod AlikeTexts
pub mod AlikeReasons
pub mod AlikeAnalyses
pub mod AlikeRefusals
pub mod AlikeReports
pub mod AlikeTasks
pub mod OneOutput
pub mod TextsStand
pub mod WrittenBack
pub mod RunsMade
pub mod WritesMade
pub mod GivenFiles
pub mod RefusalsReported
pub mod Performed
pub mod PlacedFiles
pub mod Reported
-- Passed on to the crates above: from_NAME is all that the crate NAME has in its folder of this name.
pub use Rattle.mcg6_lines.proofs as from_mcg6_lines
pub use Rattle.bench_reports.proofs.from_bench_outcomes as from_bench_outcomes
pub use Rattle.bench_reports.proofs as from_bench_reports
