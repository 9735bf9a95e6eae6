-- The definitions of this crate, passed on from one place to the crates above. Declares nothing.
pub use Rattle.move_laws.specs.Isomorphisms.{EndsAt, OneWay, Isomorphism, pre, carry_cut, carry}
pub use Rattle.move_laws.specs.Exchange.{Corner}
pub use Rattle.move_laws.specs.Corners.{outer_of, outer_shore, partner}
pub use Rattle.move_laws.specs.SameLeaf.{image, IsSameLeaf, to_name, from_name, turned_names, image_shore, merged_names}
pub use Rattle.move_laws.specs.Pairings.{IsPairing}
pub use Rattle.move_laws.specs.Scripts.{AreRising, IsProperScript}
pub use Rattle.move_laws.specs.Turning.{PlainTurned, raised, switched, followed, raised_kept, raised_merged, switched_below, over_outer, outer_below, over_inner}
