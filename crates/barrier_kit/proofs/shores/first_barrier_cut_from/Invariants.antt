use Rattle.graph_core.proofs.from_counting.Common.{◌≡◌, [], fold, flat_map, take, mem}
use Rattle.graph_core.proofs.Common.{components, with_cut}
use Rattle.barrier_kit.proofs.shores.first_barrier_cut_from.Given as goal

abbrev pub invariant-loop-class : goal.invariant-loop-class
invariant-loop-class l = record {
  cuts : l.cuts ≡ fold (with_cut l.c.order) [] (flat_map (λ class. components l.c (mem class)) (take l.class-index l.class-items));
  none : l.cuts ≡ [];
}
