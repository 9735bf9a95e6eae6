pub mod Barriers
pub mod Matched
pub mod BarrierCuts
pub mod Hall
pub mod Enlarging
pub mod Families
pub mod Joining
pub mod ClassLaw
pub mod CriticalPairs
pub mod ListedClasses
pub mod CutLists
pub mod CutFacts
pub mod AllOf
pub mod ShoreFacts
pub mod FirstCuts
pub mod Common
-- Passed on to the crates above: from_NAME is all that the crate NAME has in its folder of this name.
pub use Rattle.graph_facts.proofs.from_match_search as from_match_search
pub use Rattle.graph_facts.proofs.from_match_core as from_match_core
pub use Rattle.graph_facts.proofs.from_allowed_edges as from_allowed_edges
