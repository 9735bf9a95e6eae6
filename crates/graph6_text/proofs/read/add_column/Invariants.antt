use Rattle.std.proofs.Common.{◌≡◌, ◌≤◌, ◌+◌, ◌++◌, drop}
use Rattle.graph_core.proofs.Common.{size}
use Rattle.graph6_text.specs.Common.{bits_of, chosen, column}
use Rattle.graph6_text.proofs.read.add_column.Given as goal

abbrev pub invariant-loop-i : goal.invariant-loop-i
invariant-loop-i l = record {
  order : l.graph.order ≡ l.initial.graph.order;
  ends : l.graph.ends ++ chosen (drop l.i (column l.before (l.before + 1))) (drop l.i (drop l.from (bits_of l.data))) ≡ l.initial.graph.ends ++ chosen (column l.before (l.before + 1)) (drop l.from (bits_of l.data));
  size : size l.graph ≤ 2048;
}
