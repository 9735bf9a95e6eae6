use Rattle.graph_core.proofs.from_counting.Common.{◌≡◌, ℕ, ◌+◌, ◌<◌, ◌≤◌, true, length, mem}
use Rattle.match_search.specs.Common.{HoldsForest, numbers}
use Rattle.match_search.proofs.paths.write_path.Given as goal

-- the path from v down to x is written
abbrev pub invariant-loop-i : goal.invariant-loop-i
invariant-loop-i l = record {
  same : length l.row ≡ length l.initial.row;
  outer : mem l.forest.outer l.v ≡ true;
  left : (h : HoldsForest l.mate l.forest) → h.holds.k l.v + l.i ≡ l.pairs;
  above : (h : HoldsForest l.mate l.forest) (j : ℕ) → j ≤ h.holds.k l.v + h.holds.k l.v → h.holds.v l.v j ≡ h.holds.v l.x j;
  written : (h : HoldsForest l.mate l.forest) (j : ℕ) → h.holds.k l.v + h.holds.k l.v < j → j ≤ l.pairs + l.pairs → numbers l.row (l.start + j) ≡ h.holds.v l.x j;
  kept : (j : ℕ) → j < l.start → numbers l.row j ≡ numbers l.initial.row j;
}
