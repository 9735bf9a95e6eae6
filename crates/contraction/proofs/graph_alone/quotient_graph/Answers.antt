use Rattle.std.proofs.Common.{◌∙◌, List, ap, arith, map}
use Rattle.graph_core.proofs.Common.{pair_of}
use Rattle.graph_core.specs.declared.ends.Ends.{Ends}
use Rattle.contraction.proofs.QuotientValues.{few-blocks, pairs-limits, pairs-quotient}
use Rattle.contraction.proofs.graph_alone.quotient_graph.Goals as goal

pub overflow_cast-len : goal.overflow_cast-len
overflow_cast-len c = let f = few-blocks c.args.p.now c.len.result c.keeps_partition.ensures c.len.ensures in omega arith

pub graph_with-requires : goal.graph_with-requires
graph_with-requires c =
    let read = ap (λ (pairs : List Ends). map pair_of pairs) c.deref.ensures.value in
    pairs-limits c.args.g.now c.args.p.now.blocks c.len.result c.in_ok-pairs.field-0-0.items c.len.ensures c.in_ok-pairs.ensures.ends c.deref.result.now (read ∙ c.in_ok-pairs.ensures.pairs)
    (few-blocks c.args.p.now c.len.result c.keeps_partition.ensures c.len.ensures) c.keeps_limits.ensures.edges

pub returns : goal.returns
returns c = grind (arith, pairs-quotient c.args.g.now c.args.p.now.blocks c.len.result c.in_ok-pairs.field-0-0.items c.len.ensures c.in_ok-pairs.ensures.ends c.deref.result.now)
