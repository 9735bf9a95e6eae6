use Rattle.allowed_edges.proofs.from_counting.Common.{◌≡◌, ◌&&◌, false, mem, some}
use Rattle.graph_core.proofs.Common.{adjacent}
use Rattle.plain_graph.proofs.parts.is_next.Given as goal

abbrev pub invariant-loop-i : goal.invariant-loop-i
invariant-loop-i l = some l.i (λ u. mem l.reached u && adjacent l.graph (mem l.removed) u l.v) ≡ false
