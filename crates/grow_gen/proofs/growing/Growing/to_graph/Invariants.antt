use Rattle.std.proofs.Common.{◌≡◌, take}
use Rattle.graph_core.proofs.Common.{graph_of}
use Rattle.grow_gen.proofs.growing.Growing.to_graph.Given as goal

abbrev pub invariant-loop-edge : goal.invariant-loop-edge
invariant-loop-edge l = l.graph ≡ graph_of l.self.order (take l.edge-index l.edge-items)
