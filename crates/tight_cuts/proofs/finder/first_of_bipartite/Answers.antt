use Rattle.std.proofs.Common.{arith}
use Rattle.tight_cuts.proofs.Completeness.{candidates_none}
use Rattle.tight_cuts.proofs.finder.first_of_bipartite.Goals as goal

pub returns-then-branch : goal.returns-then-branch
returns-then-branch c = grind (arith, candidates_none c.args.bipartite.now c.keeps_covered.ensures.limits.multigraph.ends c.keeps_covered.ensures.covered)
