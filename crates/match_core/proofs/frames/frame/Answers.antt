use Rattle.match_core.proofs.FrameFacts.{best_maximum, best_attains, best_odd, best_missed, best_next, outer_rises, inner_rises}
use Rattle.match_core.proofs.frames.frame.Goals as goal

pub returns-clause-maximum : goal.returns-clause-maximum
returns-clause-maximum c = best_maximum c.args.g.now c.keeps_limits.ensures.multigraph.ends c.empty.result c.in_ok-mate.field-0.mate.items c.in_ok-mate.field-0.sets c.empty.ensures c.in_ok-mate.ensures.frame c.deref.result.now (cc) _ c.in_ok-matching.ensures.mates

pub returns-clause-attains : goal.returns-clause-attains
returns-clause-attains c = best_attains c.args.g.now c.keeps_limits.ensures.multigraph.ends c.empty.result c.in_ok-mate.field-0.mate.items c.in_ok-mate.field-0.sets c.empty.ensures c.in_ok-mate.ensures.frame c.deref.result.now (cc) _ c.in_ok-matching.ensures.mates

pub returns-clause-outer_in : goal.returns-clause-outer_in
returns-clause-outer_in c = outer_rises c.args.g.now c.keeps_limits.ensures.multigraph.ends c.empty.result c.in_ok-mate.field-0.mate.items c.in_ok-mate.field-0.sets c.empty.ensures c.in_ok-mate.ensures.frame c.deref.result.now (cc) _ c.in_ok-matching.ensures.mates c.rises.ensures

pub returns-clause-inner_in : goal.returns-clause-inner_in
returns-clause-inner_in c = inner_rises c.args.g.now c.keeps_limits.ensures.multigraph.ends c.empty.result c.in_ok-mate.field-0.mate.items c.in_ok-mate.field-0.sets c.empty.ensures c.in_ok-mate.ensures.frame c.deref.result.now (cc) _ c.in_ok-matching.ensures.mates c.rises-2.ensures

pub returns-clause-odd : goal.returns-clause-odd
returns-clause-odd c = best_odd c.args.g.now c.keeps_limits.ensures.multigraph.ends c.empty.result c.in_ok-mate.field-0.mate.items c.in_ok-mate.field-0.sets c.empty.ensures c.in_ok-mate.ensures.frame c.deref.result.now (cc) _ c.in_ok-matching.ensures.mates

pub returns-clause-missed : goal.returns-clause-missed
returns-clause-missed c = best_missed c.args.g.now c.keeps_limits.ensures.multigraph.ends c.empty.result c.in_ok-mate.field-0.mate.items c.in_ok-mate.field-0.sets c.empty.ensures c.in_ok-mate.ensures.frame c.deref.result.now (cc) _ c.in_ok-matching.ensures.mates

pub returns-clause-next : goal.returns-clause-next
returns-clause-next c = best_next c.args.g.now c.keeps_limits.ensures.multigraph.ends c.empty.result c.in_ok-mate.field-0.mate.items c.in_ok-mate.field-0.sets c.empty.ensures c.in_ok-mate.ensures.frame c.deref.result.now (cc) _ c.in_ok-matching.ensures.mates
