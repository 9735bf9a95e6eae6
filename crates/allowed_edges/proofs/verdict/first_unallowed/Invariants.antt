use Rattle.graph_core.proofs.from_counting.Common.{ℕ, ◌-◌, Within}
use Rattle.graph_core.proofs.Common.{Allowed}
use Rattle.allowed_edges.proofs.verdict.first_unallowed.Given as goal

abbrev pub invariant-loop-e : goal.invariant-loop-e
invariant-loop-e l = (j : ℕ) → Within (l.e - 1) j → Allowed l.g j
