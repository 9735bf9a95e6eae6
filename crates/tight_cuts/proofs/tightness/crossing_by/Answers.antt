use Rattle.graph_core.proofs.from_counting.Common.{false, arith, mem}
use Rattle.tight_cuts.proofs.CrossingMatchings.{crosses_by_two}
use Rattle.tight_cuts.proofs.tightness.crossing_by.Goals as goal

pub returns-clause-some : goal.returns-clause-some
returns-clause-some c m q =
    let found = c.in_ok-found.ensures in
    crosses_by_two c.args.g.now (mem c.args.shore) m c.args.e c.args.f c.requires.first c.requires.second c.requires.later (found.of m q) (found.perfect m q) (found.holds m q).0 (found.holds m q).1 c.requires.in_cut
    (c.is_to_ask.ensures.cut c.if-not-is_to_ask.false)

pub returns-clause-none : goal.returns-clause-none
returns-clause-none c q cf = c.in_ok-found.ensures.none.0 q

pub returns-then-not-branch-clause-none : goal.returns-then-not-branch-clause-none
returns-then-not-branch-clause-none c q cf together = grind arith
