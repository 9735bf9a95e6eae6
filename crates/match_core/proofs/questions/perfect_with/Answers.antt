use Rattle.graph_core.proofs.from_counting.Common.{◌≡◌, sym, ap, ◌∙◌, subst, mem, Within, none, rising_holds}
use Rattle.graph_core.proofs.Common.{size, IsPerfect}
use Rattle.match_search.specs.Common.{marks}
use Rattle.match_core.specs.Common.{edges_of, MatchingValue}
use Rattle.match_core.proofs.FrameFacts.{passed_matching, listed_perfect}
use Rattle.match_search.proofs.Gluing.{mem-holds}
use Rattle.match_core.proofs.questions.perfect_with.Goals as goal

pub matching_of-requires-clause-matching : goal.matching_of-requires-clause-matching
matching_of-requires-clause-matching c = passed_matching c.args.g.now none c.in-Some.mark.items c.deref.result.now c.deref.ensures.value (c.in_ok-mark.ensures.perfect c.in-Some.mark c.in-Some.is)

pub returns-in_ok-matching_of-in-Some-clause-perfect : goal.returns-in_ok-matching_of-in-Some-clause-perfect
returns-in_ok-matching_of-in-Some-clause-perfect c = λ m q.
    let same : c.in_ok-matching_of-in-Some.field-0 ≡ m = cc in
    subst (λ (m : MatchingValue). IsPerfect c.args.g.now none (mem (edges_of m))) same
    (listed_perfect c.args.g.now none c.in-Some.mark.items c.deref.result.now c.deref.ensures.value (c.in_ok-mark.ensures.perfect c.in-Some.mark c.in-Some.is) _ c.in_ok-matching_of-in-Some.ensures.edges)

pub returns-in_ok-matching_of-in-Some-clause-holds : goal.returns-in_ok-matching_of-in-Some-clause-holds
returns-in_ok-matching_of-in-Some-clause-holds c = λ m q e t.
    let same : c.in_ok-matching_of-in-Some.field-0 ≡ m = cc in
    let marked = ap (λ row. marks row e) c.deref.ensures.value ∙ c.in_ok-mark.ensures.holds c.in-Some.mark c.in-Some.is e (ap (λ xs. mem xs e) c.as_slice.ensures ∙ t) in
    ap (λ (m : MatchingValue). mem (edges_of m) e) (sym same) ∙ ap (λ xs. mem xs e) c.in_ok-matching_of-in-Some.ensures.edges
    ∙ rising_holds (size c.args.g.now) (marks c.deref.result.now) e (mem-holds (Within (size c.args.g.now)) c.args.edges.now e c.requires t) marked
