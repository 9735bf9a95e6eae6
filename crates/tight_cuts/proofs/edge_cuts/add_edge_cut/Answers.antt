use Rattle.std.proofs.Common.{arith}
use Rattle.graph_core.proofs.Common.{canonical-rises}
use Rattle.tight_cuts.proofs.FrontCandidates.{edge-known, edge-new}
use Rattle.tight_cuts.proofs.edge_cuts.add_edge_cut.Goals as goal

pub returns-then-any_cuts-clause-list : goal.returns-then-any_cuts-clause-list
returns-then-any_cuts-clause-list g c = grind (arith, edge-known)

pub new-requires-clause-shore : goal.new-requires-clause-shore
new-requires-clause-shore g c = canonical-rises c.order-n.result c.in-Some.shore c.canonical_shore-shore.result c.canonical_shore-shore.ensures

pub returns-in-Some-clause-list : goal.returns-in-Some-clause-list
returns-in-Some-clause-list g c =
    let is = c.keeps_covered.ensures.limits.multigraph.ends in
    grind (arith, edge-new c.args.c.now c.args.list.now c.args.e c.push.new.self c.in-Some.shore is c.keeps_covered.ensures.covered c.requires.edge)
