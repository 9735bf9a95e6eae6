use Rattle.std.proofs.Common.{rules, subst, sym}
use Rattle.two_ears.specs.from_match_search.Common.{marks}
use Rattle.ear_core.specs.Common.{IsAsked}
use Rattle.ear_core.proofs.built.Built.first_between.Goals as goal

pub returns-then-branch-clause-first : goal.returns-then-branch-clause-first
returns-then-branch-clause-first c = (search rules, c.in_ok-is_between.ensures.off (search rules), c.in_ok-is_between.ensures.joins (marks c.args.self.now.marked.mark.items) (subst (IsAsked c.args.g.now (marks c.args.self.now.marked.mark.items)) (sym c.loop-k.invariant) c.requires.asked) (search rules))
