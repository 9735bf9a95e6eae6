use Rattle.allowed_edges.proofs.from_counting.Common.{◌+◌, ◌&&◌, sym, arith, and_from, true_some, mem}
use Rattle.graph_core.proofs.Common.{adjacent}
use Rattle.plain_graph.proofs.parts.is_next.Goals as goal

pub returns-then-is_step : goal.returns-then-is_step
returns-then-is_step c =
    sym (true_some c.args.graph.now.order (λ u. mem c.args.reached u && adjacent c.args.graph.now (mem c.args.removed) u c.args.v) (c.loop-i.i + 1) (let n = c.order-i-end.ensures.is in omega arith)
    (and_from _ _ (sym c.if-contains.ensures) (sym c.if-is_step.ensures)))
