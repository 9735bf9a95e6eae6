use Rattle.std.proofs.Common.{arith}
use Rattle.allowed_edges.proofs.PairSteps.{settles_sought_pair}
use Rattle.allowed_edges.proofs.pairs.settle_pair.Goals as goal

pub returns-clause-settled : goal.returns-clause-settled
returns-clause-settled c = grind (arith, settles_sought_pair c.args.g.now c.args.e c.args.f c.args.pairs.now c.list_pair.new.pairs c.requires.before (c.is_settled.ensures.new c.if-is_settled.false))
