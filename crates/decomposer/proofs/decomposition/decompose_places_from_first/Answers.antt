use Rattle.std.proofs.Common.{arith}
use Rattle.decomposer.proofs.Picking.{first-shore-picked}
use Rattle.decomposer.proofs.decomposition.decompose_places_from_first.Goals as goal

pub decompose_cut-requires-clause-cut : goal.decompose_cut-requires-clause-cut
decompose_cut-requires-clause-cut c = grind (arith, first-shore-picked c.args.c.now c.keeps_covered.ensures.limits.multigraph.ends c.keeps_covered.ensures.covered c.args.cut c.requires)

pub decompose_cut-requires-clause-picked : goal.decompose_cut-requires-clause-picked
decompose_cut-requires-clause-picked c = grind (arith, first-shore-picked c.args.c.now c.keeps_covered.ensures.limits.multigraph.ends c.keeps_covered.ensures.covered c.args.cut c.requires)

pub decompose_cut-requires-clause-clusters : goal.decompose_cut-requires-clause-clusters
decompose_cut-requires-clause-clusters c = let known = c.in_ok-clusters.ensures.places c.in_ok-root.root.blocks in grind arith

pub returns-clause-derivation : goal.returns-clause-derivation
returns-clause-derivation c = grind arith

pub returns-clause-picked : goal.returns-clause-picked
returns-clause-picked c = grind arith

pub returns-clause-leaves : goal.returns-clause-leaves
returns-clause-leaves c = grind arith
