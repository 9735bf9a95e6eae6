use Rattle.std.proofs.Common.{arith}
use Rattle.contraction.proofs.QuotientValues.{ends-at, ends-graph, few-blocks, length-ends}
use Rattle.contraction.proofs.placed_edges.PlacedEdges.of.Goals as goal

pub overflow_cast-order : goal.overflow_cast-order
overflow_cast-order c = let f = few-blocks c.args.p.now c.len-order.result c.keeps_partition.ensures c.len-order.ensures in omega arith

pub of-requires-clause-places : goal.of-requires-clause-places
of-requires-clause-places c = few-blocks c.args.p.now c.len-order.result c.keeps_partition.ensures c.len-order.ensures

pub of-requires-clause-few : goal.of-requires-clause-few
of-requires-clause-few c = grind (arith, ends-at, length-ends)

pub of-requires-clause-graph : goal.of-requires-clause-graph
of-requires-clause-graph c = grind (arith, ends-at, ends-graph)

pub returns : goal.returns
returns c = grind (arith, ends-at c.args.g.now c.args.p.now c.edges.result.now)
