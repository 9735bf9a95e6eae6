pub mod HeldMates
pub mod RepairWalks
pub mod MatchingRows
pub mod Partners
pub mod PartnersOnDemand
pub mod Common
-- Passed on to the crates above: from_NAME is all that the crate NAME has in its folder of this name.
pub use Rattle.match_search.specs as from_match_search
