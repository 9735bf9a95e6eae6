use Rattle.std.proofs.Common.{arith}
use Rattle.contraction.proofs.QuotientValues.{ends-at, ends-graph, few-blocks}
use Rattle.contraction.proofs.place_pairs.joined_places.Goals as goal

pub overflow_cast-len : goal.overflow_cast-len
overflow_cast-len c = let f = few-blocks c.args.p.now c.len.result c.keeps_partition.ensures c.len.ensures in omega arith

pub pairs_joined-requires-clause-few : goal.pairs_joined-requires-clause-few
pairs_joined-requires-clause-few c = few-blocks c.args.p.now c.len.result c.keeps_partition.ensures c.len.ensures

pub pairs_joined-requires-clause-graph : goal.pairs_joined-requires-clause-graph
pairs_joined-requires-clause-graph c = grind (arith, ends-at c.args.g.now c.args.p.now c.edges.result.now, ends-graph c.args.g.now c.args.p.now.blocks c.len.result c.deref.result.now c.len.ensures)
