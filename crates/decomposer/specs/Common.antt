-- The definitions of this crate, passed on from one place to the crates above. Declares nothing.
pub use Rattle.decomposer.specs.Choices.{gap_of, gap, IsMostBalanced, PicksBalanced, IsStoredIn, IsChoice, MayBeAsked, ReturnsPlace, PicksReturned}
pub use Rattle.decomposer.specs.Orders.{order_named, NamedPicks, scripted_place, ScriptPicks}
pub use Rattle.decomposer.specs.Picked.{IsFirstAt, AreCandidatesAt, PicksShore, IsPickedShore, IsPickedAt, leaf_places, Finds, IsPicked}
pub use Rattle.decomposer.specs.VisitedPlaces.{IsPlaceOf, AppendsKinds, FindsKinds}
