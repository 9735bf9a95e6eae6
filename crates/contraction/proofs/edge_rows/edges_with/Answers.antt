use Rattle.graph_core.proofs.from_counting.Common.{◌∙◌, ap, arith, take_all, row_of}
use Rattle.contraction.proofs.EdgeRows.{found-all, found-more, hit, miss, row-edge}
use Rattle.contraction.proofs.edge_rows.edges_with.Goals as goal
use Rattle.contraction.proofs.edge_rows.edges_with.Goals.{then-are+in_ok-push, else-are}

pub overflow_sub-edge : goal.overflow_sub-edge
overflow_sub-edge c = let w = row-edge c.args.ends.now c.args.rows.now c.min.result c.row-edge-items.result.now c.loop-edge.edge-index c.requires.rows c.row-edge-items.ensures c.loop-edge-test.true in omega arith

pub bounds-ends-edge : goal.bounds-ends-edge
bounds-ends-edge c = let w = row-edge c.args.ends.now c.args.rows.now c.min.result c.row-edge-items.result.now c.loop-edge.edge-index c.requires.rows c.row-edge-items.ensures c.loop-edge-test.true in grind arith

pub loop-edge-preserved : goal.loop-edge-preserved
loop-edge-preserved c =
    let es = c.args.ends.now in
    let items = c.row-edge-items.result.now in
    let i = c.loop-edge.edge-index in
    found-more es c.args.a c.args.b items i (record { a = 0; b = 0 }) c.loop-edge.edges.items c.if-are.edges.items
    (row-edge es c.args.rows.now c.min.result items i c.requires.rows c.row-edge-items.ensures c.loop-edge-test.true) c.loop-edge-test.true c.loop-edge.invariant
    (grind (arith, then-are+in_ok-push, hit, else-are, miss))

pub returns : goal.returns
returns c =
    found-all c.args.ends.now c.args.a c.args.b c.args.rows.now c.row-edge-items.result.now c.loop-edge.edge-index c.loop-edge.edges.items
    c.requires.rows (c.row-edge-items.ensures ∙ ap (row_of c.args.rows.now) c.min.ensures) c.requires.apart (take_all c.loop-edge.edge-index c.row-edge-items.result.now c.loop-edge-test.false) c.loop-edge.invariant
