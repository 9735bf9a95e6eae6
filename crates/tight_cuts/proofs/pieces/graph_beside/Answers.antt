use Rattle.graph_core.proofs.from_counting.Common.{◌+◌, ◌∙◌, sym, subst, arith, both_ways}
use Rattle.barrier_kit.proofs.from_allowed_edges.PairSteps.{held_together}
use Rattle.barrier_kit.specs.from_allowed_edges.PairTables.{edge_lists}
use Rattle.tight_cuts.proofs.BesideGraphs.{BesideSoFar, beside-more, beside-skip, beside-whole}
use Rattle.tight_cuts.proofs.pieces.graph_beside.Goals.{then-f-e+then-both+in_ok-push_edge, else-f-e, else-f-e-via-then-f-e+else-both, else-f-e-via-else-f-e}
use Rattle.tight_cuts.proofs.pieces.graph_beside.Goals as goal

pub loop-k-preserved : goal.loop-k-preserved
loop-k-preserved c =
    let l = c.loop-k-test.true in
    let s = c.size-k-end.ensures.is in
    let ms = edge_lists c.args.pairs.now in
    elim c.if-f-e.branch [
      | then-f-e+then-both+in_ok-push_edge w ↦
          subst (BesideSoFar c.args.g.now ms c.args.e (c.loop-k.k + 1)) (sym (w.beside-is ∙ w.in_ok-push_edge.ensures.ok))
          (beside-more c.args.g.now c.loop-k.beside ms c.args.e c.loop-k.k w.ends-ends.result.a w.ends-ends.result.b c.loop-k.invariant (omega arith) w.if-f-e.true
          (held_together c.args.g.now 1 c.args.pairs.now c.requires.listed c.args.e (c.loop-k.k + 1) (sym w.both.ensures ∙ w.if-both.true)) w.ends-ends.ensures.first w.ends-ends.ensures.second)
      | else-f-e w ↦ grind (arith, beside-skip c.args.g.now c.loop-k.beside ms c.args.e c.loop-k.k c.loop-k.invariant, else-f-e-via-then-f-e+else-both, both_ways, else-f-e-via-else-f-e)
    ]

pub returns : goal.returns
returns c = beside-whole c.args.g.now c.loop-k.beside c.args.pairs.now c.args.e c.loop-k.k c.requires.listed c.requires.held (let l = c.loop-k-test.false in let s = c.size-k-end.ensures.is in omega arith) c.loop-k.invariant
