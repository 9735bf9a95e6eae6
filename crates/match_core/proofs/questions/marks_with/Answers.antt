use Rattle.graph_core.proofs.from_counting.Common.{◌≡◌, Bool, Vec, Global, sym, subst, ◌∙◌, refl, or_right, fun_ext, Set, none, minus, union, mem}
use Rattle.graph_core.proofs.Common.{IsPerfect}
use Rattle.match_search.specs.Common.{marks}
use Rattle.match_search.proofs.Gluing.{glued, cut_off}
use Rattle.match_core.proofs.questions.marks_with.Goals as goal

pub returns-in-None-2-clause-none : goal.returns-in-None-2-clause-none
returns-in-None-2-clause-none c = (
  (λ q p. c.in_ok-perfect_marks-in-Some.ensures.none.0 c.in-None-2.is (minus p.0 (mem c.args.edges.now), cut_off c.args.g.now (mem c.args.edges.now) (mem c.in-Some.met) p.0 (c.in_ok-ends_met.ensures.once c.in-Some.met c.in-Some.is) p.1 p.2)),
  (λ h. refl),
)

pub returns-in-Some-2-clause-perfect : goal.returns-in-Some-2-clause-perfect
returns-in-Some-2-clause-perfect c = λ m q.
    let same : c.mark_places.new.mark ≡ m = cc in
    let all : marks c.mark_places.new.mark.items ≡ union (marks c.in-Some-2.mark.items) (mem c.args.edges.now) = fun_ext c.mark_places.ensures.each in
    subst (λ (m : Vec Bool Global). IsPerfect c.args.g.now none (marks m.items)) same
    (subst (λ (s : Set). IsPerfect c.args.g.now none s) (sym all)
    (glued c.args.g.now (mem c.args.edges.now) (mem c.in-Some.met) (marks c.in-Some-2.mark.items) c.keeps_limits.ensures.multigraph.ends (c.in_ok-ends_met.ensures.once c.in-Some.met c.in-Some.is) (c.in_ok-perfect_marks-in-Some.ensures.perfect c.in-Some-2.mark c.in-Some-2.is)))

pub returns-in-Some-2-clause-none : goal.returns-in-Some-2-clause-none
returns-in-Some-2-clause-none c =
    let all : marks c.mark_places.new.mark.items ≡ union (marks c.in-Some-2.mark.items) (mem c.args.edges.now) = fun_ext c.mark_places.ensures.each in (
      (λ q. cc),
      (λ h. absurd (h (
        marks c.mark_places.new.mark.items,
        subst (λ (s : Set). IsPerfect c.args.g.now none s) (sym all)
            (glued c.args.g.now (mem c.args.edges.now) (mem c.in-Some.met) (marks c.in-Some-2.mark.items) c.keeps_limits.ensures.multigraph.ends (c.in_ok-ends_met.ensures.once c.in-Some.met c.in-Some.is) (c.in_ok-perfect_marks-in-Some.ensures.perfect c.in-Some-2.mark c.in-Some-2.is)),
        λ e t. c.mark_places.ensures.each e ∙ or_right (marks c.in-Some-2.mark.items e) (mem c.args.edges.now e) t,
      ))),
    )
