use Rattle.allowed_edges.proofs.from_counting.Common.{◌≡◌, ◌≤◌, ◌&&◌, count, mem}
use Rattle.graph_core.proofs.Common.{in_cut}
use Rattle.plain_graph.proofs.cuts.edges_in_cut.Given as goal

abbrev pub invariant-loop-i : goal.invariant-loop-i
invariant-loop-i l = record { found : l.found ≡ count l.i (λ e. mem l.edges e && in_cut l.graph (mem l.shore) e); few : l.found ≤ l.i }
