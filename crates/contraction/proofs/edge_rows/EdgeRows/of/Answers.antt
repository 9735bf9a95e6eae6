use Rattle.std.proofs.Common.{◌+◌, ◌∙◌, sym, subst, arith}
use Rattle.graph_core.proofs.Common.{ends_within}
use Rattle.graph_core.specs.declared.ends.Ends.{Ends}
use Rattle.contraction.proofs.EdgeRows.{ListsFirst, rows-more, rows-same}
use Rattle.contraction.proofs.edge_rows.EdgeRows.of.Goals as goal
use Rattle.contraction.proofs.edge_rows.EdgeRows.of.Goals.{then-edge+in_ok-add, else-edge}

pub add-requires : goal.add-requires
add-requires c = let w = ends_within c.args.n c.args.ends.now c.loop-k.k (record { a = 0; b = 0 }) c.requires.graph c.loop-k-test.true in grind (arith, c.loop-k.invariant.long)

pub loop-k-preserved : goal.loop-k-preserved
loop-k-preserved c =
    let es = c.args.ends.now in
    let d : Ends = record { a = 0; b = 0 } in
    elim c.if-edge.branch [
      | then-edge+in_ok-add w ↦ rows-more es c.args.n c.loop-k.k d w.min.result c.loop-k.rows c.if-edge.rows c.loop-k-test.true w.min.ensures w.if-edge.true (let f = ends_within c.args.n es c.loop-k.k d c.requires.graph c.loop-k-test.true in let m = w.min.ensures in let h = c.loop-k.invariant.long in grind arith) c.loop-k.invariant (w.rows-is ∙ w.in_ok-add.ensures)
      | else-edge w ↦ subst (ListsFirst es c.args.n (c.loop-k.k + 1)) (sym w.rows-is) (rows-same es c.args.n c.loop-k.k d c.loop-k.rows c.loop-k-test.true w.if-edge.false c.loop-k.invariant)
    ]
