use Rattle.graph_core.proofs.from_counting.Common.{◌≡◌, map, take, none}
use Rattle.graph_core.proofs.Common.{pair_of, adjacent}
use Rattle.graph6_text.specs.Common.{column_pairs}
use Rattle.graph6_text.proofs.write.to_adjacency_bits.Given as goal

abbrev pub invariant-loop-pair : goal.invariant-loop-pair
invariant-loop-pair l = record {
  columns : map pair_of l.pair-items ≡ column_pairs l.g.order;
  so_far : l.bits.items ≡ map (λ pair. adjacent l.g none pair.0 pair.1) (map pair_of (take l.pair-index l.pair-items));
}
