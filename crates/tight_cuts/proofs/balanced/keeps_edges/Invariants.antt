use Rattle.graph_core.proofs.from_counting.Common.{◌≡◌, ℕ, false, Within, complement, mem}
use Rattle.graph_core.proofs.Common.{connects}
use Rattle.tight_cuts.proofs.balanced.keeps_edges.Given as goal

abbrev pub invariant-loop-k : goal.invariant-loop-k
invariant-loop-k l = (e : ℕ) → Within l.k e → connects l.g (mem l.part) (complement (mem l.set)) e ≡ false
