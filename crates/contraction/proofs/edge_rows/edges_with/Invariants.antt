use Rattle.std.proofs.Common.{◌≡◌, filter, take}
use Rattle.graph_core.proofs.Common.{graph_of, has_ends}
use Rattle.contraction.proofs.edge_rows.edges_with.Given as goal

-- those of the first edges of the row that have the two ends
abbrev pub invariant-loop-edge : goal.invariant-loop-edge
invariant-loop-edge l = l.edges.items ≡ filter (has_ends (graph_of 0 l.ends) l.a l.b) (take l.edge-index l.edge-items)
