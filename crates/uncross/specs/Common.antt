-- The definitions of this crate, passed on from one place to the crates above. Declares nothing.
pub use Rattle.uncross.specs.Plans.{PlainPlan, here, in_kept, in_merged, crossing, if_big, IsPlan, first_kept_shore, second_shore, plan_result, CutIf, IsExposed}
pub use Rattle.uncross.specs.TurnedView.{turned_of, IsMade}
pub use Rattle.uncross.specs.PlanView.{plan_of}
pub use Rattle.uncross.specs.MapView.{map_of, maps_of, moved_image, image_name, kept_images, merged_images}
pub use Rattle.uncross.specs.Following.{blocks_of, IsNameIn, IsMapInto, names_after, map_after, IsMapIntoIf, IsSwitched, led_on}
pub use Rattle.uncross.specs.Exchanges.{images_at, exchange_at}
pub use Rattle.uncross.specs.Changes.{changed_order}
pub use Rattle.uncross.specs.Below.{IsPlaceBelow, IsBrought, IsRaised}
