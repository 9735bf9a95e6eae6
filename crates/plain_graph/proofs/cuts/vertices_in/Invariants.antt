use Rattle.allowed_edges.proofs.from_counting.Common.{◌≡◌, ◌≤◌, count, mem}
use Rattle.plain_graph.proofs.cuts.vertices_in.Given as goal

abbrev pub invariant-loop-i : goal.invariant-loop-i
invariant-loop-i l = record { found : l.found ≡ count l.i (mem l.shore); few : l.found ≤ l.i }
