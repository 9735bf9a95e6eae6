-- The maps of the first leaves, followed by those of the rest, are all of them.
use Rattle.std.proofs.Common.{length}
use Rattle.std.specs.Vec.Iter.{into_iter_items}
use Rattle.tree_core.proofs.Common.{own_maps, leaf_count, shape_of}
use Rattle.uncross.proofs.OwnMaps.{IsOwnSoFar}
use Rattle.uncross.proofs.move_maps.own_maps.Given as goal

abbrev pub invariant-leaves : goal.invariant-leaves
invariant-leaves l = IsOwnSoFar (leaf_count (shape_of l.tree)) (own_maps l.n (shape_of l.tree)) l.maps l.to (into_iter_items l.rest)

-- those left
abbrev pub decreases-leaves : goal.decreases-leaves
decreases-leaves l = length (into_iter_items l.rest)
