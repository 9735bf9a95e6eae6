-- The maps so far, followed by those of the rest, are all of them; and the rest lead to leaves.
use Rattle.std.proofs.Common.{length, map}
use Rattle.std.specs.Vec.Iter.{into_iter_items}
use Rattle.uncross.proofs.MappedSteps.{IsMadeOf}
use Rattle.uncross.specs.Common.{IsMapIntoIf, map_after, maps_of}
use Rattle.uncross.proofs.leaf_maps.maps_after.Given as goal

abbrev pub invariant-maps : goal.invariant-maps
invariant-maps l = IsMadeOf (map_after l.n l.order l.switched) (IsMapIntoIf l.switched) (map (map_after l.n l.order l.switched) (maps_of l.fn.maps)) (maps_of l.after) (maps_of (into_iter_items l.rest))

-- those left
abbrev pub decreases-maps : goal.decreases-maps
decreases-maps l = length (into_iter_items l.rest)
