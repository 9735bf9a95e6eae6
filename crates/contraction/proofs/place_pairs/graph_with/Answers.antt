use Rattle.std.proofs.Common.{arith}
use Rattle.graph_core.proofs.Common.{ends_within}
use Rattle.contraction.proofs.QuotientPairs.{ends_differ}
use Rattle.contraction.proofs.place_pairs.graph_with.Goals as goal

pub push_edge-requires-clause-first : goal.push_edge-requires-clause-first
push_edge-requires-clause-first c = grind (arith, ends_within c.args.n c.args.pairs.now c.loop-pair.pair-index)

pub push_edge-requires-clause-second : goal.push_edge-requires-clause-second
push_edge-requires-clause-second c = grind (arith, ends_within c.args.n c.args.pairs.now c.loop-pair.pair-index)

pub push_edge-requires-clause-different : goal.push_edge-requires-clause-different
push_edge-requires-clause-different c = ends_differ c.args.n c.args.pairs.now c.loop-pair.pair-index (record { a = 0; b = 0 }) c.requires.multigraph.no_loop c.loop-pair-test.true
