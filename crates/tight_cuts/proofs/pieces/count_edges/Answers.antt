use Rattle.std.proofs.Common.{◌≡◌, ◌∙◌, ◌<◌, length, sym, subst, arith, slice_set}
use Rattle.std.proofs.lemmas.List.{get_or_default}
use Rattle.barrier_kit.proofs.from_allowed_edges.Marking.{edge-below}
use Rattle.tight_cuts.specs.Common.{at_place}
use Rattle.tight_cuts.proofs.Weighing.{counts-more, edge-before, length-counted}
use Rattle.tight_cuts.proofs.pieces.count_edges.Goals as goal

pub overflow_add-index_mut : goal.overflow_add-index_mut
overflow_add-index_mut c =
    let below = edge-below (length c.args.row.now.items) c.args.m.now.rows c.loop-i.i c.row-edge.result c.requires.within c.row-edge.ensures in
    let inside : c.row-edge.result.edge < length c.loop-i.row.items = subst (λ n. c.row-edge.result.edge < n) (sym c.loop-i.invariant.long) below in
    let value : c.index_mut.result.now ≡ at_place c.loop-i.row.items c.row-edge.result.edge = c.index_mut.ensures.value ∙ get_or_default c.loop-i.row.items c.row-edge.result.edge c.index_mut.result.now 0 inside in
    let before = edge-before c.args.row.now.items c.loop-i.row.items c.args.m.now c.keeps_matching.ensures c.loop-i.i c.row-edge.result c.row-edge.ensures c.loop-i.invariant.each in
    let room = c.requires.room c.row-edge.result.edge in omega arith

pub loop-i-preserved : goal.loop-i-preserved
loop-i-preserved c =
    let below = edge-below (length c.args.row.now.items) c.args.m.now.rows c.loop-i.i c.row-edge.result c.requires.within c.row-edge.ensures in
    let inside : c.row-edge.result.edge < length c.loop-i.row.items = subst (λ n. c.row-edge.result.edge < n) (sym c.loop-i.invariant.long) below in
    let value : c.index_mut.result.now ≡ at_place c.loop-i.row.items c.row-edge.result.edge = c.index_mut.ensures.value ∙ get_or_default c.loop-i.row.items c.row-edge.result.edge c.index_mut.result.now 0 inside in
    grind (arith, length-counted, slice_set, counts-more)
