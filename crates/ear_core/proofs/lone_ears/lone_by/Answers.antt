use Rattle.graph_core.proofs.from_counting.Common.{◌+◌, arith, subst, sym, true, cases_eq, mem, true≢false}
use Rattle.two_ears.specs.from_match_search.Common.{marks}
use Rattle.ear_core.specs.Common.{IsAsked}
use Rattle.ear_core.proofs.NextStages.{met-within}
use Rattle.ear_core.proofs.Searching.{at-none}
use Rattle.ear_core.proofs.lone_ears.lone_by.Goals as goal

pub matching_at-requires-clause-second : goal.matching_at-requires-clause-second
matching_at-requires-clause-second c = grind (arith, met-within)

pub matching_at-requires-clause-there : goal.matching_at-requires-clause-there
matching_at-requires-clause-there c = (c.in_ok-row.ensures.sound c.in-Some.v c.in-Some.ensures.some.member).3

pub returns-in-Some-clause-two : goal.returns-in-Some-clause-two
returns-in-Some-clause-two c =
    let u = c.loop-k.k + 1 in
    let r = c.in_ok-row.ensures.sound c.in-Some.v c.in-Some.ensures.some.member in
    (u, c.in-Some.v, r.0, r.1, r.2, c.in_ok-m.ensures.part)

pub returns-clause-none : goal.returns-clause-none
returns-clause-none c = grind (arith, met-within)

pub lone_with-requires-clause-stage : goal.lone_with-requires-clause-stage
lone_with-requires-clause-stage c = subst (IsAsked c.args.g.now (marks c.args.mark.now)) (sym c.loop-k.invariant.same) c.requires.stage

pub loop-k-preserved : goal.loop-k-preserved
loop-k-preserved c = grind (arith, cases_eq, at-none, true≢false, mem)
