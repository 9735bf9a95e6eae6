use Rattle.graph_core.proofs.from_counting.Common.{◌≡◌, fold, map, take, mem, rising_list, singleton, union}
use Rattle.graph_core.proofs.Common.{with_cut}
use Rattle.separation_kit.proofs.shores.add_with_vertex.Given as goal

abbrev pub invariant-loop-part : goal.invariant-loop-part
invariant-loop-part l = l.cuts ≡ fold (with_cut l.n) l.initial.cuts (map (λ s. rising_list l.n (union (mem s) (singleton l.a))) (take l.part-index l.parts))
