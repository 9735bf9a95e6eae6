use Rattle.std.proofs.Common.{arith}
use Rattle.tight_cuts.proofs.ClustersAtPlaces.{clusters-seen, seen-clusters}
use Rattle.tight_cuts.proofs.LiftedCandidates.{at-blocks}
use Rattle.tight_cuts.proofs.PlaceCandidates.{seen-at_vertices}
use Rattle.tight_cuts.proofs.at_places.listed_at.Goals as goal

pub returns-in_ok-clusters-in-Some-clause-list : goal.returns-in_ok-clusters-in-Some-clause-list
returns-in_ok-clusters-in-Some-clause-list c = grind (arith, at-blocks c.args.place.now.graph c.args.place.now.blocks)

pub listed-requires-in-None : goal.listed-requires-in-None
listed-requires-in-None c = grind (arith, clusters-seen c.args.place.now.graph c.args.place.now.blocks c.keeps_place.ensures.limits.multigraph.ends c.keeps_place.ensures.partition)

pub returns-in-None-clause-clusters : goal.returns-in-None-clause-clusters
returns-in-None-clause-clusters c = grind (arith, seen-clusters c.args.place.now.graph c.args.place.now.blocks c.keeps_place.ensures.limits.multigraph.ends c.keeps_place.ensures.partition)

pub returns-in-None-clause-list : goal.returns-in-None-clause-list
returns-in-None-clause-list c = grind (arith, seen-at_vertices c.args.place.now.graph c.args.place.now.blocks)
