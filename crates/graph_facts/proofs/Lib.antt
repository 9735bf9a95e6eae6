pub mod CoveredFacts
pub mod Parities
-- Passed on to the crates above: from_NAME is all that the crate NAME has in its folder of this name.
pub use Rattle.allowed_edges.proofs.from_match_search as from_match_search
pub use Rattle.allowed_edges.proofs.from_match_core as from_match_core
pub use Rattle.allowed_edges.proofs as from_allowed_edges
