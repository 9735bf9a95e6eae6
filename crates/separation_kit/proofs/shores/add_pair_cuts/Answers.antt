use Rattle.graph_core.proofs.from_counting.Common.{sym, subst, All, arith, Within, IsRisingIn, pair_set}
use Rattle.separation_kit.proofs.PairShores.{components-rise}
use Rattle.separation_kit.proofs.shores.add_pair_cuts.Goals as goal

pub add_with_vertex-requires-clause-vertex : goal.add_with_vertex-requires-clause-vertex
add_with_vertex-requires-clause-vertex c = subst (λ n. Within n c.args.pair.a) (sym c.order.ensures.is) c.requires.first

pub add_with_vertex-requires-clause-parts : goal.add_with_vertex-requires-clause-parts
add_with_vertex-requires-clause-parts c =
    subst (λ n. All (IsRisingIn n) c.in_ok-parts.parts) (sym c.order.ensures.is)
    (subst (All (IsRisingIn c.args.g.now.order)) (sym c.in_ok-parts.ensures) (components-rise c.args.g.now (pair_set c.args.pair.a c.args.pair.b)))

pub returns : goal.returns
returns c = grind arith
