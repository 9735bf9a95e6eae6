use Rattle.graph_core.proofs.from_counting.Common.{sym, subst, All, arith, IsRisingIn}
use Rattle.separation_kit.proofs.PairShores.{fold-map_more}
use Rattle.separation_kit.proofs.shores.add_with_vertex.Goals as goal

pub with_vertex-requires-clause-part : goal.with_vertex-requires-clause-part
with_vertex-requires-clause-part c =
    subst (IsRisingIn c.args.n) (sym c.part-item.is) (subst (All (IsRisingIn c.args.n)) (sym c.as_slice-part-items.ensures) c.requires.parts c.loop-part.part-index c.part-item.result c.loop-part-test.true)

pub loop-part-preserved : goal.loop-part-preserved
loop-part-preserved c =
    let i = c.loop-part.part-index in
    let d = c.part-item.result in
    grind (arith, fold-map_more c.args.n c.args.a i d c.args.parts.now c.loop-part.cuts c.args.cuts.now c.add_cut.new.cuts c.with_vertex.result)
