use Rattle.graph_core.proofs.from_counting.Common.{◌≡◌, ℕ, ◌<◌, ◌≤◌, true, mem}
use Rattle.graph_core.proofs.Common.{in_cut, Together}
use Rattle.tight_cuts.proofs.tightness.has_later.Given as goal

abbrev pub invariant-loop-k : goal.invariant-loop-k
invariant-loop-k l = (d : ℕ) → l.e < d → d ≤ l.k → in_cut l.g (mem l.shore) d ≡ true → Together l.g l.e d → ⊥
