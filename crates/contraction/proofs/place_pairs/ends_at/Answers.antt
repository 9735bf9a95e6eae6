use Rattle.std.proofs.Common.{arith, take_all}
use Rattle.graph_core.proofs.Common.{ends_within}
use Rattle.contraction.proofs.QuotientPairs.{ends-contracted}
use Rattle.contraction.proofs.place_pairs.ends_at.Goals as goal

pub placed-requires-clause-first : goal.placed-requires-clause-first
placed-requires-clause-first c = grind (arith, ends_within c.args.p.now.order c.args.edges.now c.loop-edge.edge-index)

pub placed-requires-clause-second : goal.placed-requires-clause-second
placed-requires-clause-second c = grind (arith, ends_within c.args.p.now.order c.args.edges.now c.loop-edge.edge-index)

pub returns : goal.returns
returns c = grind (arith, take_all c.loop-edge.edge-index c.args.edges.now c.loop-edge-test.false, ends-contracted c.args.p.now.order c.args.p.now.blocks c.args.edges.now c.loop-edge.ends.items)
