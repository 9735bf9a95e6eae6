use Rattle.std.proofs.Common.{arith}
use Rattle.tight_cuts.proofs.PartitionCandidates.{found-at, none-at}
use Rattle.tight_cuts.proofs.at_places.candidates_from_clusters.Goals as goal

pub returns-clause-tight : goal.returns-clause-tight
returns-clause-tight c = grind (arith, found-at c.args.place.now.graph c.args.place.now.blocks c.keeps_place.ensures.limits.multigraph.ends)

pub returns-clause-none : goal.returns-clause-none
returns-clause-none c = grind (arith, none-at c.args.place.now.graph c.args.place.now.blocks c.keeps_place.ensures.limits.multigraph.ends)
