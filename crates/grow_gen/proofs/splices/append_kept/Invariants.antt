use Rattle.std.proofs.Common.{◌≡◌, ◌++◌, map, filter, not, take}
use Rattle.graph_core.proofs.Common.{pair_of}
use Rattle.grow_gen.specs.Common.{is_at, renumbered_edge}
use Rattle.grow_gen.proofs.splices.append_kept.Given as goal

abbrev pub invariant-loop-a : goal.invariant-loop-a
invariant-loop-a l = map pair_of l.edges.items ≡ map pair_of l.initial.edges.items ++ map (renumbered_edge l.n l.w) (filter (λ e. not (is_at 1 e)) (take l.a-index l.a-items))
