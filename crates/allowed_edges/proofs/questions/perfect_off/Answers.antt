use Rattle.graph_core.proofs.from_counting.Common.{◌≡◌, sym, ◌∙◌, subst, eqb-true, arith, mem}
use Rattle.graph_core.proofs.Common.{IsPerfect, missed_count, none_missed-perfect}
use Rattle.match_core.specs.Common.{IsOf, MatchingValue, edges_of}
use Rattle.allowed_edges.proofs.questions.perfect_off.Goals as goal

pub misses_none-requires : goal.misses_none-requires
misses_none-requires c = record { of = c.in_ok-rest.ensures.of c.args.g.now c.requires.of; within = c.requires.within; matching = c.in_ok-rest.ensures.matching c.args.g.now c.requires.of }

pub returns-then-misses_none-clause-of : goal.returns-then-misses_none-clause-of
returns-then-misses_none-clause-of c = λ m q.
    let same : c.in_ok-rest.rest ≡ m = cc in
    subst (λ (m : MatchingValue). IsOf c.args.g.now m) same (c.in_ok-rest.ensures.of c.args.g.now c.requires.of)

pub returns-then-misses_none-clause-perfect : goal.returns-then-misses_none-clause-perfect
returns-then-misses_none-clause-perfect c = λ m q.
    let same : c.in_ok-rest.rest ≡ m = cc in
    let zero = eqb-true (missed_count c.args.g.now (mem c.args.met) (mem (edges_of c.in_ok-rest.rest))) 0 (sym c.misses_none.ensures ∙ c.if-misses_none.true) in
    subst (λ (m : MatchingValue). IsPerfect c.args.g.now (mem c.args.met) (mem (edges_of m))) same (none_missed-perfect c.args.g.now (mem c.args.met) (mem (edges_of c.in_ok-rest.rest)) (c.in_ok-rest.ensures.matching c.args.g.now c.requires.of) zero)

pub returns-then-misses_none-clause-none : goal.returns-then-misses_none-clause-none
returns-then-misses_none-clause-none c =
    let zero = eqb-true (missed_count c.args.g.now (mem c.args.met) (mem (edges_of c.in_ok-rest.rest))) 0 (sym c.misses_none.ensures ∙ c.if-misses_none.true) in
    grind (arith, none_missed-perfect c.args.g.now (mem c.args.met) (mem (edges_of c.in_ok-rest.rest)) (c.in_ok-rest.ensures.matching c.args.g.now c.requires.of) zero)

pub repair-requires-clause-of : goal.repair-requires-clause-of
repair-requires-clause-of c = c.in_ok-rest.ensures.of c.args.g.now c.requires.of

pub completed-requires : goal.completed-requires
completed-requires c = record { of = c.in_ok-rest.ensures.of c.args.g.now c.requires.of; within = c.requires.within; matching = c.in_ok-rest.ensures.matching c.args.g.now c.requires.of }

pub returns-in-Some-clause-none : goal.returns-in-Some-clause-none
returns-in-Some-clause-none c = (
  (λ q. cc),
  (λ h. absurd (h (mem (edges_of c.in-Some.found), (c.in_ok-found.ensures c.in-Some.found c.in-Some.is).perfect))),
)
