use Rattle.std.proofs.Common.{◌≡◌, ◌≤◌, length}
use Rattle.graph_core.proofs.Common.{size}
use Rattle.graph6_text.specs.Common.{bits_of, chosen, column_pairs}
use Rattle.graph6_text.proofs.read.with_edges.Given as goal

abbrev pub invariant-loop-i : goal.invariant-loop-i
invariant-loop-i l = record {
  order : l.graph.order ≡ l.n;
  ends : l.graph.ends ≡ chosen (column_pairs l.i) (bits_of l.data);
  place : l.from ≡ length (column_pairs l.i);
  size : size l.graph ≤ 2048;
}
