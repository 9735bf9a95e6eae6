pub mod Graph
pub mod Matchings
pub mod Walks
pub mod Trees
pub mod Rows
pub mod Nodes
pub mod FoundVertices
pub mod Sides
pub mod Components
pub mod BergeSets
pub mod GallaiEdmonds
pub mod Covered
pub mod Verdicts
pub mod PairLists
pub mod Tight
pub mod CanonicalCuts
pub mod Partitions
pub mod Quotients
pub mod Shores
pub mod Simple
pub mod Structure
pub mod View
pub mod Common
-- Passed on to the crates above: from_NAME is all that the crate NAME has in its folder of this name.
pub use Rattle.vset_core.specs.from_counting as from_counting
pub use Rattle.vset_core.specs as from_vset_core
pub use Rattle.line_text.specs as from_line_text
