use Rattle.allowed_edges.proofs.PairSteps.{settles_nothing}
use Rattle.allowed_edges.proofs.pairs.no_pairs.Goals as goal

pub returns : goal.returns
returns c = settles_nothing c.args.g.now c.in_ok-pairs.pairs c.in_ok-pairs.ensures.size c.in_ok-pairs.ensures.list
