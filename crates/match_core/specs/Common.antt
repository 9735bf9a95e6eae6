-- The definitions of this crate, passed on from one place to the crates above. Declares nothing.
pub use Rattle.match_core.specs.HeldMates.{HoldsMates, ArePairs, NamesRows}
pub use Rattle.match_core.specs.RepairWalks.{NamesPerfect, NamesPairs, StartsWalk}
pub use Rattle.match_core.specs.MatchingRows.{MatchingValue, ends_at, edges_of, KeepsMatching, IsRowOf, IsOf, is_clear, inserted, row_at, has_end_in, left_over}
pub use Rattle.match_core.specs.Partners.{are_partners, AreEmptyRows, ArePartners}
pub use Rattle.match_core.specs.PartnersOnDemand.{RowsValue, AreKnownRows}
