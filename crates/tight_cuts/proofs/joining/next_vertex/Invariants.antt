use Rattle.graph_core.proofs.from_counting.Common.{◌≡◌, true, IfSome, mem, Within}
use Rattle.tight_cuts.proofs.joining.next_vertex.Given as goal

abbrev pub invariant-loop-k : goal.invariant-loop-k
invariant-loop-k l = IfSome l.found (λ u. Within l.g.order u × (mem l.reach u ≡ true))
