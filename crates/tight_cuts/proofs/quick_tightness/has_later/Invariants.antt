use Rattle.graph_core.proofs.from_counting.Common.{ℕ, ◌<◌, ◌≤◌, Within, mem}
use Rattle.graph_core.proofs.Common.{size}
use Rattle.tight_cuts.specs.Common.{Leaves}
use Rattle.tight_cuts.proofs.quick_tightness.has_later.Given as goal

abbrev pub invariant-loop-k : goal.invariant-loop-k
invariant-loop-k l = (f v : ℕ) → Within (size l.g) f → l.u < v → v ≤ l.k → Leaves l.g (mem l.set) v f → ⊥
