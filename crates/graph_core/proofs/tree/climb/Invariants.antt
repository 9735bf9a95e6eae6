use Rattle.vset_core.proofs.from_counting.Common.{◌≡◌, ◌++◌, length, Within}
use Rattle.graph_core.specs.Common.{parent_at, depth_at, way_up}
use Rattle.graph_core.proofs.tree.climb.Given as goal

abbrev pub invariant-climbing : goal.invariant-climbing
invariant-climbing l = record {
  within : Within (length l.nodes) l.v;
  way : l.walk ++ way_up (parent_at l.nodes) (depth_at l.nodes l.v) l.v ≡ l.fn.walk ++ way_up (parent_at l.nodes) (depth_at l.nodes l.from) l.from;
}

abbrev pub decreases-climbing : goal.decreases-climbing
decreases-climbing l = depth_at l.nodes l.v
