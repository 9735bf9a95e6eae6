use Rattle.graph_core.proofs.from_counting.Common.{◌≡◌, ◌↔◌, ℕ, ◌+◌, ◌≤◌, true, mem}
use Rattle.match_search.specs.Common.{HoldsForest, GoesOver, numbers}
use Rattle.match_search.proofs.ForestWalks.{steps}
use Rattle.match_search.proofs.flower.outer_of_path.Given as goal

abbrev pub invariant-climbing : goal.invariant-climbing
invariant-climbing l = record {
  outer : mem l.forest.outer l.at ≡ true;
  pairs : (h : HoldsForest l.mate l.forest) → h.holds.k l.at ≤ h.holds.k l.x;
  over : (h : HoldsForest l.mate l.forest) → GoesOver h.holds.k h.holds.v l.at l.x;
  path : (h : HoldsForest l.mate l.forest) (v : ℕ) → (mem l.path v ≡ true) ↔ ((s : ℕ) × (h.holds.k l.at ≤ s) × (s ≤ h.holds.k l.x) × (h.holds.v l.x (s + s) ≡ v));
}

abbrev pub decreases-climbing : goal.decreases-climbing
decreases-climbing l = steps (numbers l.mate) (numbers l.forest.parent.items) 128 l.at
