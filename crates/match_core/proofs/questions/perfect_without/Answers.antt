use Rattle.graph_core.proofs.from_counting.Common.{◌≡◌, subst, mem}
use Rattle.graph_core.proofs.Common.{IsPerfect}
use Rattle.match_core.specs.Common.{edges_of, MatchingValue}
use Rattle.match_core.proofs.FrameFacts.{passed_matching, listed_perfect}
use Rattle.match_core.proofs.questions.perfect_without.Goals as goal

pub matching_of-requires-clause-matching : goal.matching_of-requires-clause-matching
matching_of-requires-clause-matching c = passed_matching c.args.g.now (mem c.args.removed) c.in-Some.mark.items c.deref.result.now c.deref.ensures.value (c.in_ok-mark.ensures.perfect c.in-Some.mark c.in-Some.is)

pub returns-in_ok-matching_of-in-Some-clause-perfect : goal.returns-in_ok-matching_of-in-Some-clause-perfect
returns-in_ok-matching_of-in-Some-clause-perfect c = λ m q.
    let same : c.in_ok-matching_of-in-Some.field-0 ≡ m = cc in
    subst (λ (m : MatchingValue). IsPerfect c.args.g.now (mem c.args.removed) (mem (edges_of m))) same
    (listed_perfect c.args.g.now (mem c.args.removed) c.in-Some.mark.items c.deref.result.now c.deref.ensures.value (c.in_ok-mark.ensures.perfect c.in-Some.mark c.in-Some.is) _ c.in_ok-matching_of-in-Some.ensures.edges)
