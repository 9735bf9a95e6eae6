use Rattle.std.proofs.Common.{◌≡◌}
use Rattle.graph_core.proofs.Common.{singles}
use Rattle.contraction.proofs.partition.single_vertices.Given as goal

abbrev pub invariant-loop-v : goal.invariant-loop-v
invariant-loop-v l = l.blocks.items ≡ singles l.v
