use Rattle.graph_core.proofs.from_counting.Common.{◌≡◌, ℕ, ◌==◌, ◌||◌, ap, ◌∙◌, subst, refl, eq-eqb, or_left, or_right, mem, none}
use Rattle.graph_core.proofs.Common.{first_end, second_end, IsPerfect}
use Rattle.match_core.specs.Common.{MatchingValue, edges_of}
use Rattle.allowed_edges.proofs.ThroughEdges.{edge_free, second_free, two_cut, two_glued, two_leave}
use Rattle.allowed_edges.proofs.questions.perfect_with_pair.Goals as goal

pub perfect_off-requires-clause-few : goal.perfect_off-requires-clause-few
perfect_off-requires-clause-few c =
    two_leave c.args.g.now c.keeps_limits.ensures.multigraph c.args.e c.args.f c.requires.first c.requires.second c.requires.apart (mem c.empty.result) (mem c.with_ends.result) (mem c.with_ends-met.result) (λ v. ap (λ xs. mem xs v) c.empty.ensures) c.with_ends.ensures c.with_ends-met.ensures
    (mem (edges_of c.args.kept.now)) c.requires.perfect c.requires.held

pub joined-requires-clause-first : goal.joined-requires-clause-first
joined-requires-clause-first c =
    (edge_free c.args.g.now c.keeps_limits.ensures.multigraph c.args.e c.requires.first (mem c.empty.result) (mem c.with_ends.result) (λ v. ap (λ xs. mem xs v) c.empty.ensures) c.with_ends.ensures (mem c.with_ends-met.result) (mem (edges_of c.in-Some.rest)) (c.in_ok-rest.ensures.perfect c.in-Some.rest c.in-Some.is)
    (λ v t. c.with_ends-met.ensures v ∙ ap (λ b. (b || (first_end c.args.g.now c.args.f == v)) || (second_end c.args.g.now c.args.f == v)) t)).0

pub joined-requires-clause-second : goal.joined-requires-clause-second
joined-requires-clause-second c =
    (edge_free c.args.g.now c.keeps_limits.ensures.multigraph c.args.e c.requires.first (mem c.empty.result) (mem c.with_ends.result) (λ v. ap (λ xs. mem xs v) c.empty.ensures) c.with_ends.ensures (mem c.with_ends-met.result) (mem (edges_of c.in-Some.rest)) (c.in_ok-rest.ensures.perfect c.in-Some.rest c.in-Some.is)
    (λ v t. c.with_ends-met.ensures v ∙ ap (λ b. (b || (first_end c.args.g.now c.args.f == v)) || (second_end c.args.g.now c.args.f == v)) t)).1

pub joined-requires-in-Some-clause-first : goal.joined-requires-in-Some-clause-first
joined-requires-in-Some-clause-first c =
    (second_free c.args.g.now c.keeps_limits.ensures.multigraph c.args.e c.args.f c.requires.first c.requires.second c.requires.apart (mem c.empty.result) (mem c.with_ends.result) (mem c.with_ends-met.result) (λ v. ap (λ xs. mem xs v) c.empty.ensures) c.with_ends.ensures c.with_ends-met.ensures
    (mem (edges_of c.in-Some.rest)) (mem (edges_of c.in_ok-one-in-Some.one)) (c.in_ok-rest.ensures.perfect c.in-Some.rest c.in-Some.is) c.in_ok-one-in-Some.ensures.edges).0

pub joined-requires-in-Some-clause-second : goal.joined-requires-in-Some-clause-second
joined-requires-in-Some-clause-second c =
    (second_free c.args.g.now c.keeps_limits.ensures.multigraph c.args.e c.args.f c.requires.first c.requires.second c.requires.apart (mem c.empty.result) (mem c.with_ends.result) (mem c.with_ends-met.result) (λ v. ap (λ xs. mem xs v) c.empty.ensures) c.with_ends.ensures c.with_ends-met.ensures
    (mem (edges_of c.in-Some.rest)) (mem (edges_of c.in_ok-one-in-Some.one)) (c.in_ok-rest.ensures.perfect c.in-Some.rest c.in-Some.is) c.in_ok-one-in-Some.ensures.edges).1

pub returns-in_ok-joined-in-Some-clause-perfect : goal.returns-in_ok-joined-in-Some-clause-perfect
returns-in_ok-joined-in-Some-clause-perfect c = λ m q.
    let same : c.in_ok-joined-in-Some.field-0 ≡ m = cc in
    subst (λ (m : MatchingValue). IsPerfect c.args.g.now none (mem (edges_of m))) same
    (two_glued c.args.g.now c.keeps_limits.ensures.multigraph c.args.e c.args.f c.requires.first c.requires.second c.requires.apart (mem c.empty.result) (mem c.with_ends.result) (mem c.with_ends-met.result) (λ v. ap (λ xs. mem xs v) c.empty.ensures) c.with_ends.ensures c.with_ends-met.ensures
    (mem (edges_of c.in-Some.rest)) (mem (edges_of c.in_ok-joined-in-Some.field-0)) (c.in_ok-rest.ensures.perfect c.in-Some.rest c.in-Some.is) (λ i. c.in_ok-joined-in-Some.ensures.edges i ∙ ap (λ b. b || (c.args.f == i)) (c.in_ok-one-in-Some.ensures.edges i)))

pub returns-in_ok-joined-in-Some-clause-none : goal.returns-in_ok-joined-in-Some-clause-none
returns-in_ok-joined-in-Some-clause-none c =
    let edges : (i : ℕ) → mem (edges_of c.in_ok-joined-in-Some.field-0) i ≡ ((mem (edges_of c.in-Some.rest) i || (c.args.e == i)) || (c.args.f == i)) = λ i. c.in_ok-joined-in-Some.ensures.edges i ∙ ap (λ b. b || (c.args.f == i)) (c.in_ok-one-in-Some.ensures.edges i) in
    let perfect = two_glued c.args.g.now c.keeps_limits.ensures.multigraph c.args.e c.args.f c.requires.first c.requires.second c.requires.apart (mem c.empty.result) (mem c.with_ends.result) (mem c.with_ends-met.result) (λ v. ap (λ xs. mem xs v) c.empty.ensures) c.with_ends.ensures c.with_ends-met.ensures
    (mem (edges_of c.in-Some.rest)) (mem (edges_of c.in_ok-joined-in-Some.field-0)) (c.in_ok-rest.ensures.perfect c.in-Some.rest c.in-Some.is) edges in
    let e = c.args.e in
    let f = c.args.f in
    let rest = mem (edges_of c.in-Some.rest) in (
      (λ q. cc),
      (λ h. absurd (h (
        mem (edges_of c.in_ok-joined-in-Some.field-0),
        perfect,
        edges e ∙ or_left (rest e || (e == e)) (f == e) (or_right (rest e) (e == e) (eq-eqb e e refl)),
        edges f ∙ or_right (rest f || (e == f)) (f == f) (eq-eqb f f refl),
      ))),
    )

pub returns-in-None-clause-none : goal.returns-in-None-clause-none
returns-in-None-clause-none c = (
  (λ q a. c.in_ok-rest.ensures.none.0 c.in-None.is (two_cut c.args.g.now c.keeps_limits.ensures.multigraph c.args.e c.args.f c.requires.first c.requires.second c.requires.apart (mem c.empty.result) (mem c.with_ends.result) (mem c.with_ends-met.result) (λ v. ap (λ xs. mem xs v) c.empty.ensures) c.with_ends.ensures c.with_ends-met.ensures a)),
  (λ h. refl),
)
