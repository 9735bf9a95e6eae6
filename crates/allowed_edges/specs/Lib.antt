pub mod Leaving
pub mod EdgeTables
pub mod PairTables
-- Passed on to the crates above: from_NAME is all that the crate NAME has in its folder of this name.
pub use Rattle.graph_core.specs.from_counting as from_counting
pub use Rattle.match_core.specs.from_match_search as from_match_search
pub use Rattle.match_core.specs as from_match_core
