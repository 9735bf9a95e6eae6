use Rattle.std.proofs.Common.{arith}
use Rattle.grow_gen.proofs.OnePiece.{edge-ends}
use Rattle.grow_gen.proofs.growing.Growing.to_graph.Goals as goal

pub push_edge-requires-clause-first : goal.push_edge-requires-clause-first
push_edge-requires-clause-first c = grind (arith, edge-ends c.args.self.now.order)

pub push_edge-requires-clause-second : goal.push_edge-requires-clause-second
push_edge-requires-clause-second c = grind (arith, edge-ends c.args.self.now.order)

pub push_edge-requires-clause-different : goal.push_edge-requires-clause-different
push_edge-requires-clause-different c = grind (arith, edge-ends c.args.self.now.order c.deref-edge-items.result.now c.loop-edge.edge-index)
