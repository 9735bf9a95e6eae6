use Rattle.graph_core.proofs.from_counting.Common.{arith, mem}
use Rattle.tight_cuts.proofs.PartnersOfEnds.{together_partners}
use Rattle.tight_cuts.proofs.tightness.may_hold_both.Goals as goal

pub returns-clause-none : goal.returns-clause-none
returns-clause-none c shown together = grind (arith, together_partners c.args.g.now c.keeps_limits.ensures.multigraph c.args.e c.args.f c.requires.first c.requires.second c.requires.apart (mem c.with-met.result))
