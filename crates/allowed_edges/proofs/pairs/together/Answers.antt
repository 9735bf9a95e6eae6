use Rattle.allowed_edges.proofs.PairSteps.{settled_both, settled_pairs}
use Rattle.allowed_edges.proofs.pairs.together.Goals as goal

pub returns-clause-list : goal.returns-clause-list
returns-clause-list c = settled_pairs c.args.g.now c.complete_pairs.new.pairs c.in_ok-complete_pairs.ensures

pub returns-clause-both : goal.returns-clause-both
returns-clause-both c = settled_both c.args.g.now c.complete_pairs.new.pairs c.in_ok-complete_pairs.ensures
