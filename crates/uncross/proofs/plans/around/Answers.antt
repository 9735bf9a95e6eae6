use Rattle.uncross.proofs.PlanSets.{outer-is}
use Rattle.uncross.proofs.plans.around.Goals as goal

pub returns : goal.returns
returns c = outer-is c.args.n c.args.x c.args.y c.full.result c.union.result c.minus-outside.result c.full.ensures.members c.union.ensures c.rises.ensures c.minus-outside.ensures
