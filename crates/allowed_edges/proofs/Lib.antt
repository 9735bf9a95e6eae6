pub mod Marking
pub mod ShortPaths
pub mod FirstComponent
pub mod TwiceNamed
pub mod ThroughEdges
pub mod HeldNumbers
pub mod PairSteps
pub mod AllowedPartners
pub mod ListedBases
-- Passed on to the crates above: from_NAME is all that the crate NAME has in its folder of this name.
pub use Rattle.graph_core.proofs.from_counting as from_counting
pub use Rattle.match_core.proofs.from_match_search as from_match_search
pub use Rattle.match_core.proofs as from_match_core
