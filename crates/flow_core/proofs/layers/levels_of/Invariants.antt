use Rattle.std.proofs.Common.{◌≡◌, suc, length, slice_index}
use Rattle.flow_core.specs.Common.{first_node}
use Rattle.flow_core.proofs.layers.levels_of.Given as goal

abbrev pub invariant-loop-j : goal.invariant-loop-j
invariant-loop-j l = record {
  all : length l.levels.items ≡ suc l.net.nodes;
  first : slice_index l.levels.items (first_node l.visits) ≡ 0;
}
