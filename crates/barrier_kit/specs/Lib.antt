pub mod Choices
pub mod BarrierCuts
pub mod BarrierShores
pub mod Common
-- Passed on to the crates above: from_NAME is all that the crate NAME has in its folder of this name.
pub use Rattle.graph_facts.specs.from_match_search as from_match_search
pub use Rattle.graph_facts.specs.from_match_core as from_match_core
pub use Rattle.graph_facts.specs.from_allowed_edges as from_allowed_edges
