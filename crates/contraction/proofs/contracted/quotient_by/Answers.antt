use Rattle.std.proofs.Common.{◌≡◌, arith}
use Rattle.graph_core.proofs.Common.{Graph, IsWithinLimits}
use Rattle.contraction.specs.Contracted.{ContractedValue, KeepsContraction, contraction}
use Rattle.contraction.specs.Partition.{KeepsPartition, PartitionValue}
use Rattle.contraction.proofs.QuotientValues.{contraction-same, ends-graph, few-blocks, length-ends, pairs-limits, pairs-once}
use Rattle.contraction.proofs.contracted.quotient_by.Goals as goal

pub overflow_cast-order : goal.overflow_cast-order
overflow_cast-order c = let f = few-blocks c.args.p.now c.len-order.result c.keeps_partition.ensures c.len-order.ensures in omega arith

pub graph_with-requires : goal.graph_with-requires
graph_with-requires c = pairs-limits c.args.g.now c.args.p.now.blocks c.len-order.result c.args.ends.now c.len-order.ensures c.requires.ends c.args.pairs.now c.requires.pairs
    (few-blocks c.args.p.now c.len-order.result c.keeps_partition.ensures c.len-order.ensures) c.keeps_limits.ensures.edges

pub of-requires-clause-few : goal.of-requires-clause-few
of-requires-clause-few c = let n = length-ends c.args.g.now c.args.p.now.blocks c.len-order.result c.args.ends.now c.len-order.ensures c.requires.ends in let m = c.keeps_limits.ensures.edges in omega arith

pub of-requires-clause-graph : goal.of-requires-clause-graph
of-requires-clause-graph c = grind (arith, ends-graph)

pub remember-requires-clause-once : goal.remember-requires-clause-once
remember-requires-clause-once c = pairs-once c.args.g.now c.args.p.now.blocks c.len-order.result c.args.ends.now c.len-order.ensures c.requires.ends c.args.pairs.now c.requires.pairs

keeps-made : (g : Graph) (p : PartitionValue) (q : ContractedValue) → IsWithinLimits g → KeepsPartition p → p.order ≡ g.order → q.blocks ≡ p.blocks → q ≡ contraction g p.blocks → KeepsContraction q
keeps-made g p q limits keeps order blocks is = grind arith

pub returns : goal.returns
returns c = contraction-same c.args.g.now c.args.p.now.blocks c.len-order.result c.args.ends.now c.len-order.ensures c.requires.ends c.args.pairs.now c.requires.pairs _
    c.order.ensures.is c.size.ensures.is c.in_ok-blocks.ensures c.in_ok-graph.ensures c.in_ok-remembered.ensures.edges

pub invariant_of-result : goal.invariant_of-result
invariant_of-result c = keeps-made c.args.g.now c.args.p.now _ c.keeps_limits.ensures c.keeps_partition.ensures c.requires.order c.in_ok-blocks.ensures
    (contraction-same c.args.g.now c.args.p.now.blocks c.len-order.result c.args.ends.now c.len-order.ensures c.requires.ends c.args.pairs.now c.requires.pairs _
    c.order.ensures.is c.size.ensures.is c.in_ok-blocks.ensures c.in_ok-graph.ensures c.in_ok-remembered.ensures.edges)
