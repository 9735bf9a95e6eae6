use Rattle.graph_core.proofs.from_counting.Common.{◌≡◌, ℕ, ◌+◌, length, Within}
use Rattle.tight_cuts.specs.Common.{at_place, leader}
use Rattle.tight_cuts.proofs.leading.leaders_of.Given as goal

abbrev pub invariant-loop-k : goal.invariant-loop-k
invariant-loop-k l = record {
  long : length l.row.items ≡ l.k + 1;
  each : (v : ℕ) → Within l.k v → at_place l.row.items v ≡ leader l.pieces-inside.items.items v;
}
