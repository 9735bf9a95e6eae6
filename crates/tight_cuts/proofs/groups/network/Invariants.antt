use Rattle.graph_core.proofs.from_counting.Common.{◌≡◌, ◌≤◌, total}
use Rattle.flow_core.specs.Common.{total_capacity}
use Rattle.tight_cuts.specs.Common.{arcs_by, at_place, row_group}
use Rattle.tight_cuts.proofs.groups.network.Given as goal

abbrev pub invariant-loop-k : goal.invariant-loop-k
invariant-loop-k l = record {
  net : l.net ≡ record { nodes = l.g.order; arcs = arcs_by l.g l.weights (row_group l.groups.a l.groups.b l.groups.x l.groups.y l.leaders) l.k };
  sum : total_capacity l.net ≤ total l.k (at_place l.weights);
}
