use Rattle.two_ears.proofs.from_match_search.WholeGraphs.{limits_row}
use Rattle.ear_core.proofs.matched.matched_mates.Goals as goal

pub mates_of-requires-clause-row : goal.mates_of-requires-clause-row
mates_of-requires-clause-row c = limits_row c.args.g.now c.order-n.result c.edges-ends.result.now c.order-n.ensures.is c.edges-ends.ensures.edges c.edges-ends.ensures.limits
