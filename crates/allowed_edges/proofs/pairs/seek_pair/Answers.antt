use Rattle.std.proofs.Common.{◌∙◌, sym}
use Rattle.allowed_edges.proofs.PairSteps.{settles_sought, sought_apart}
use Rattle.allowed_edges.proofs.pairs.seek_pair.Goals as goal

pub returns-clause-begun : goal.returns-clause-begun
returns-clause-begun c = settles_sought c.args.g.now 1 c.args.e c.args.f c.args.pairs.now c.list_pair.new.pairs c.requires.begun (sym c.both.ensures ∙ c.if-both.false) c.in_ok-next.ensures.sought

pub returns-clause-sought : goal.returns-clause-sought
returns-clause-sought c new apart together = sought_apart c.args.g.now c.args.e c.args.f c.args.pairs.now c.list_pair.new.pairs c.in_ok-next.ensures.sought new together
