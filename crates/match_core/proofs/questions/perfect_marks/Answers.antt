use Rattle.std.proofs.Common.{arith}
use Rattle.match_core.proofs.FrameFacts.{no_outer-best_perfect, outer-none_perfect}
use Rattle.match_core.proofs.questions.perfect_marks.Goals as goal

pub returns-then-len-eq0-clause-perfect : goal.returns-then-len-eq0-clause-perfect
returns-then-len-eq0-clause-perfect c = grind (arith, no_outer-best_perfect c.args.g.now c.keeps_limits.ensures.multigraph.ends)

pub returns-then-len-eq0-clause-none : goal.returns-then-len-eq0-clause-none
returns-then-len-eq0-clause-none c = grind (arith, no_outer-best_perfect c.args.g.now c.keeps_limits.ensures.multigraph.ends)

pub returns-clause-none : goal.returns-clause-none
returns-clause-none c = grind (arith, outer-none_perfect c.args.g.now c.keeps_limits.ensures.multigraph.ends)
