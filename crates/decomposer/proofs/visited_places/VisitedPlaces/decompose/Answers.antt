use Rattle.std.proofs.Common.{arith}
use Rattle.tree_core.proofs.Common.{few-nodes, leaf_count-cuts, length-leaves_at, node_count-cuts}
use Rattle.decomposer.proofs.visited_places.VisitedPlaces.decompose.Goals as goal

pub tallied-tally-requires : goal.tallied-tally-requires
tallied-tally-requires g c = grind (arith, few-nodes, length-leaves_at, leaf_count-cuts, node_count-cuts)

pub decompose_at-requires-clause-clusters : goal.decompose_at-requires-clause-clusters
decompose_at-requires-clause-clusters g c = let known = c.in_ok-clusters.ensures.places c.in_ok-root.root.blocks in grind arith
