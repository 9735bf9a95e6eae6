use Rattle.std.proofs.Common.{◌≡◌, take}
use Rattle.plain_graph.proofs.worked.graph_with.Given as goal

-- the graph has the edges so far
abbrev pub invariant-loop-edge : goal.invariant-loop-edge
invariant-loop-edge l = l.graph ≡ record { order = l.order; ends = take l.edge-index l.edges }
