use Rattle.std.proofs.Common.{arith}
use Rattle.ear_core.proofs.Mates.{rows-mates, other_end-within}
use Rattle.ear_core.proofs.tracing.mate_of.Goals as goal

pub across-vertex-requires : goal.across-vertex-requires
across-vertex-requires c = grind (arith, rows-mates c.args.g.now c.keeps_limits.ensures.multigraph.ends c.args.m.now c.requires.perfect)

pub returns-clause-within : goal.returns-clause-within
returns-clause-within c = grind (arith, rows-mates c.args.g.now c.keeps_limits.ensures.multigraph.ends c.args.m.now c.requires.perfect)

pub returns-clause-vertex : goal.returns-clause-vertex
returns-clause-vertex c = grind (arith, rows-mates, other_end-within)
