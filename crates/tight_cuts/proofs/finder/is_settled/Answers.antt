use Rattle.std.proofs.Common.{arith}
use Rattle.tight_cuts.proofs.ClusteredVertices.{edge_settled}
use Rattle.tight_cuts.proofs.FrontCandidates.{edge-known}
use Rattle.tight_cuts.proofs.finder.is_settled.Goals as goal

pub returns-then-any_cuts : goal.returns-then-any_cuts
returns-then-any_cuts c = grind (arith, edge-known c.args.c.now c.args.list.now c.args.e)

pub returns : goal.returns
returns c = grind (arith, edge_settled c.args.c.now c.keeps_covered.ensures.limits.multigraph.ends c.keeps_covered.ensures.covered c.args.e c.requires.edge c.args.list.now)
