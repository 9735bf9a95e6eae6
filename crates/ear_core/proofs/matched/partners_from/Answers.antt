use Rattle.graph_core.proofs.from_counting.Common.{mem}
use Rattle.two_ears.proofs.from_match_core.HeldMates.{first_mates}
use Rattle.two_ears.proofs.from_match_core.PartnerRows.{missable-partners}
use Rattle.ear_core.proofs.matched.partners_from.Goals as goal

pub returns-clause-row : goal.returns-clause-row
returns-clause-row c = λ v w.
    let g = c.args.g.now in
    let r = mem c.args.removed in
    let is = c.keeps_limits.ensures.multigraph.ends in
    let held = first_mates g r c.in_ok-instance.instance c.args.mate.now (c.in_ok-instance.ensures g is c.rows.ensures) c.requires.mates.long (c.requires.mates.m, c.requires.mates.mates) in
    missable-partners g is r c.args.u c.in_ok-row.row c.requires.left (c.in_ok-row.ensures.row g r held.m held.held) v w
