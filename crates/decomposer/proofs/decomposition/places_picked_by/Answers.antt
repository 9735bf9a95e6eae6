use Rattle.std.proofs.Common.{arith}
use Rattle.decomposer.proofs.decomposition.places_picked_by.Goals as goal

pub decompose_at-requires-clause-clusters : goal.decompose_at-requires-clause-clusters
decompose_at-requires-clause-clusters g c = let known = c.in_ok-clusters.ensures.places c.in_ok-root.root.blocks in grind arith

pub returns-clause-derivation : goal.returns-clause-derivation
returns-clause-derivation g c = grind arith

pub returns-clause-picked : goal.returns-clause-picked
returns-clause-picked g c = grind arith

pub returns-clause-leaves : goal.returns-clause-leaves
returns-clause-leaves g c = grind arith
