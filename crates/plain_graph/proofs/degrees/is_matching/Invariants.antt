use Rattle.allowed_edges.proofs.from_counting.Common.{◌≡◌, true, mem, every}
use Rattle.graph_core.proofs.Common.{fits_at}
use Rattle.plain_graph.proofs.degrees.is_matching.Given as goal

abbrev pub invariant-loop-i : goal.invariant-loop-i
invariant-loop-i l = every l.i (fits_at l.graph (mem l.removed) (mem l.edges)) ≡ true
