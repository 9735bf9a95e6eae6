use Rattle.graph_core.proofs.from_counting.Common.{ℕ, Within, mem}
use Rattle.tight_cuts.specs.Common.{Leaves}
use Rattle.tight_cuts.proofs.quick_tightness.edge_out.Given as goal

abbrev pub invariant-loop-k : goal.invariant-loop-k
invariant-loop-k l = (e : ℕ) → Within l.k e → Leaves l.g (mem l.set) l.u e → ⊥
