use Rattle.std.proofs.Common.{arith}
use Rattle.tight_cuts.proofs.BipartiteShores.{digraph_found}
use Rattle.tight_cuts.proofs.bipartite.digraph_at.Goals as goal

pub returns : goal.returns
returns c = grind (arith, digraph_found c.graph-g.result.now c.args.e c.side_with-near.result c.in-Some.matching c.new.result, c.in_ok-matching.ensures.holds c.in-Some.matching c.in-Some.is)
