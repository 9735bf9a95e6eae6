use Rattle.std.proofs.Common.{◌≡◌, map, take}
use Rattle.graph_core.proofs.Common.{pair_of}
use Rattle.grow_gen.proofs.growing.Growing.first.Given as goal

abbrev pub invariant-loop-a : goal.invariant-loop-a
invariant-loop-a l = map pair_of l.edges.items ≡ take l.a-index l.a-items
