use Rattle.uncross.proofs.PlanSets.{inner-is}
use Rattle.uncross.proofs.plans.met.Goals as goal

pub returns : goal.returns
returns c = inner-is c.args.n c.args.x c.args.y c.meet-both.result c.requires.first c.rises.ensures c.meet-both.ensures
