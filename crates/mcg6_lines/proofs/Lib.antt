pub mod SimpleQuotients
pub mod SingleLeaves
pub mod LeafTexts
pub mod TakenEdges
pub mod Components
pub mod UncoveredGraphs
pub mod OneTree
pub mod ReadMultigraphs
pub mod PairedCounts
pub mod SameKinds
pub mod Counts
pub mod MissedVertices
pub mod OneStanding
pub mod MatedSets
pub mod CutTexts
pub mod EarTexts
pub mod AlikeMatchings
pub mod OneAnswer
pub mod DecimalSteps
-- Passed on to the crates above: from_NAME is all that the crate NAME has in its folder of this name.
pub use Rattle.report_text.proofs as from_report_text
pub use Rattle.definition_laws.proofs as from_definition_laws
