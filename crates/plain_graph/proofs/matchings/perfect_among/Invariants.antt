use Rattle.allowed_edges.proofs.from_counting.Common.{◌≡◌, filter, take, List, ℕ, mem}
use Rattle.graph_core.proofs.Common.{is_perfect}
use Rattle.plain_graph.proofs.matchings.perfect_among.Given as goal

abbrev pub invariant-loop-edges : goal.invariant-loop-edges
invariant-loop-edges l = l.found ≡ filter (λ (m : List ℕ). is_perfect l.graph (mem l.removed) (mem m)) (take l.edges-index l.sets)
