use Rattle.allowed_edges.proofs.from_counting.Common.{◌≡◌, ◌≤◌, ◌+◌, ◌*◌, ◌==◌, ◌&&◌, count, mem}
use Rattle.graph_core.proofs.Common.{first_end, second_end}
use Rattle.plain_graph.proofs.degrees.degree.Given as goal

abbrev pub invariant-loop-i : goal.invariant-loop-i
invariant-loop-i l = record {
  found : l.found ≡ count l.i (λ e. mem l.edges e && (first_end l.graph e == l.v)) + count l.i (λ e. mem l.edges e && (second_end l.graph e == l.v));
  few : l.found ≤ 2 * l.i;
}
