use Rattle.match_search.proofs.WholeGraphs.{limits_row}
use Rattle.match_search.proofs.best.find_mates.Goals as goal

pub first_pairs-requires : goal.first_pairs-requires
first_pairs-requires c = limits_row c.args.g.now c.order-n.result c.edges-ends.result.now c.order-n.ensures.is c.edges-ends.ensures.edges c.edges-ends.ensures.limits
