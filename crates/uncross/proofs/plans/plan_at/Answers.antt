use Rattle.std.proofs.Common.{sym}
use Rattle.uncross.proofs.PlanSets.{same-shores}
use Rattle.uncross.proofs.plans.plan_at.Goals as goal

pub returns-then-is_subset-2 : goal.returns-then-is_subset-2
returns-then-is_subset-2 c = same-shores c.args.p.now.order c.args.x c.args.y c.requires.root c.requires.shore (sym c.if-is_subset.ensures) (sym c.if-is_subset-2.ensures)
