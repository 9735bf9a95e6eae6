use Rattle.std.proofs.Common.{◌≡◌, ◌≤◌}
use Rattle.graph_core.proofs.Common.{size, with_ends}
use Rattle.two_ears.specs.from_match_search.Common.{marks}
use Rattle.ear_core.specs.Common.{listed}
use Rattle.ear_core.proofs.asking.marked_graph.Given as goal

-- the marked edges so far
abbrev pub invariant-loop-k : goal.invariant-loop-k
invariant-loop-k l = record {
  is : l.stage ≡ with_ends l.g (listed l.g (marks l.mark) l.k);
  few : size l.stage ≤ l.k;
}
