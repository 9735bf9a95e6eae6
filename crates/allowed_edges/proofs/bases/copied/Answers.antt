use Rattle.allowed_edges.proofs.PairSteps.{same_matching}
use Rattle.allowed_edges.proofs.bases.copied.Goals as goal

pub returns : goal.returns
returns c = same_matching c.args.m.now c.in_ok-copy.copy c.empty.result c.empty.ensures c.in_ok-copy.ensures.order c.in_ok-copy.ensures.rows
