use Rattle.std.proofs.Common.{arith, rules}
use Rattle.ear_core.proofs.GoingOn.{on-ok}
use Rattle.ear_core.proofs.built.Built.add_if_between.Goals as goal

pub returns-then-branch-clause-filled : goal.returns-then-branch-clause-filled
returns-then-branch-clause-filled c = on-ok c.add_edge.result _ _ (λ fills n first f asks filled. fills n first f filled (c.in_ok-is_between.ensures.off (search rules)) (c.in_ok-is_between.ensures.joins f asks (search rules))) c.add_edge.ensures.filled

pub returns-then-branch-clause-fewer : goal.returns-then-branch-clause-fewer
returns-then-branch-clause-fewer c = on-ok c.add_edge.result _ _ (λ less. let fewer = less (c.in_ok-is_between.ensures.off (search rules)) in omega arith) c.add_edge.ensures.fewer
