pub mod HeldMates
pub mod Gallai
pub mod TutteBerge
pub mod OddComponents
pub mod OuterComponents
pub mod InsertedRows
pub mod MatchingEdges
pub mod FrameFacts
pub mod RepairWalks
pub mod RepairedPaths
pub mod NamedEdges
pub mod PairedEdges
pub mod ClearedMatchings
pub mod PartnerRows
pub mod RowMates
-- Passed on to the crates above: from_NAME is all that the crate NAME has in its folder of this name.
pub use Rattle.match_search.proofs as from_match_search
