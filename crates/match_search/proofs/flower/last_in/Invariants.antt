use Rattle.graph_core.proofs.from_counting.Common.{◌≡◌, true, mem}
use Rattle.match_search.specs.Common.{HoldsForest, IsLastIn, numbers}
use Rattle.match_search.proofs.ForestWalks.{steps}
use Rattle.match_search.proofs.flower.last_in.Given as goal

abbrev pub invariant-climbing : goal.invariant-climbing
invariant-climbing l = record {
  outer : mem l.forest.outer l.at ≡ true;
  last : (h : HoldsForest l.mate l.forest) → IsLastIn h.holds.k h.holds.v l.set l.y l.at l.way;
}

abbrev pub decreases-climbing : goal.decreases-climbing
decreases-climbing l = steps (numbers l.mate) (numbers l.forest.parent.items) 128 l.at
