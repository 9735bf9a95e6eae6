use Rattle.graph_core.proofs.from_counting.Common.{arith, same_Some}
use Rattle.allowed_edges.proofs.ListedBases.{listed_with}
use Rattle.allowed_edges.proofs.bases.listed_base.Goals as goal

pub returns-then-holds : goal.returns-then-holds
returns-then-holds c = grind (arith, same_Some c.in_ok-base.base, listed_with c.args.g.now 1 c.args.e c.args.pairs.now c.requires.begun c.loop-i.i c.index-list-i.result)
