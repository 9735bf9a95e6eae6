pub mod Standings
pub mod KindLines
pub mod LeafLines
pub mod Elementary
pub mod MatchingLines
pub mod CutLines
pub mod EarLines
pub mod Selecting
pub mod Telling
pub mod Alike
-- Passed on to the crates above: from_NAME is all that the crate NAME has in its folder of this name.
pub use Rattle.leaf_kinds.specs as from_leaf_kinds
pub use Rattle.decomposer.specs as from_decomposer
pub use Rattle.report_text.specs as from_report_text
pub use Rattle.definition_laws.specs as from_definition_laws
