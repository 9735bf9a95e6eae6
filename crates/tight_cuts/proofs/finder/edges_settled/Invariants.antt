use Rattle.graph_core.proofs.from_counting.Common.{◌≡◌, ℕ, Within}
use Rattle.tight_cuts.specs.Common.{with_edge_cut}
use Rattle.tight_cuts.proofs.finder.edges_settled.Given as goal

abbrev pub invariant-loop-k : goal.invariant-loop-k
invariant-loop-k l = (e : ℕ) → Within l.k e → l.list ≡ with_edge_cut l.c l.list e
