use Rattle.graph_core.proofs.from_counting.Common.{◌≡◌, ◌+◌, true, mem}
use Rattle.match_search.specs.Common.{HoldsForest, numbers}
use Rattle.match_search.proofs.ForestWalks.{steps}
use Rattle.match_search.proofs.paths.pairs_to.Given as goal

abbrev pub invariant-climbing : goal.invariant-climbing
invariant-climbing l = record {
  outer : mem l.forest.outer l.at ≡ true;
  counted : (h : HoldsForest l.mate l.forest) → l.pairs + h.holds.k l.at ≡ h.holds.k l.x;
}

abbrev pub decreases-climbing : goal.decreases-climbing
decreases-climbing l = steps (numbers l.mate) (numbers l.forest.parent.items) 128 l.at
