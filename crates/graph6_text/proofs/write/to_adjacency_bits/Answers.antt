use Rattle.std.proofs.Common.{take_all, arith}
use Rattle.graph6_text.specs.Common.{adjacency_bits}
use Rattle.graph6_text.proofs.Columns.{pair_within}
use Rattle.graph6_text.proofs.write.to_adjacency_bits.Goals as goal

pub adjacent-requires-clause-first : goal.adjacent-requires-clause-first
adjacent-requires-clause-first c = grind (arith, pair_within c.args.g.now.order c.deref-pair-items.result.now c.loop-pair.pair-index)

pub adjacent-requires-clause-second : goal.adjacent-requires-clause-second
adjacent-requires-clause-second c = grind (arith, pair_within c.args.g.now.order c.deref-pair-items.result.now c.loop-pair.pair-index)

pub returns : goal.returns
unfolding adjacency_bits
returns c = grind (arith, take_all c.loop-pair.pair-index c.deref-pair-items.result.now)
