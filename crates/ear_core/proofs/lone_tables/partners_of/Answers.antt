use Rattle.graph_core.proofs.from_counting.Common.{◌≡◌, ◌∙◌, [], List, ℕ, ap, sym, subst, and_from, and_parts, mem, true≢false}
use Rattle.ear_core.proofs.Searching.{at-none}
use Rattle.ear_core.proofs.StageClasses.{left-other}
use Rattle.ear_core.specs.Common.{IsAsked}
use Rattle.ear_core.proofs.lone_tables.partners_of.Goals as goal

pub returns-in-None-clause-row : goal.returns-in-None-clause-row
returns-in-None-clause-row c = λ g f is asks v. (
  λ t. absurd (true≢false (sym t ∙ ap (λ (xs : List ℕ). mem xs v) c.empty.ensures)),
  λ p.
      let asked = c.asked-2.result.now in
      let other = left-other g is f asked (subst (IsAsked g f) (sym c.asked-2.ensures) asks) c.args.u v c.args.set c.with.result c.minus-others.result c.with.ensures c.minus-others.ensures p.0 p.1 in
      absurd (true≢false (sym other ∙ ap (λ (xs : List ℕ). mem xs v) (at-none c.first.result (c.minus-others.result ≡ []) c.in-None.is c.first.ensures.none))),
)

pub returns-in_ok-row-in-Some-clause-row : goal.returns-in_ok-row-in-Some-clause-row
returns-in_ok-row-in-Some-clause-row c = λ g f is asks v.
    let row = c.in_ok-row-in-Some.row in
    let partners = c.in_ok-row-in-Some.ensures.row g f is asks v in (
      λ t. let p = and_parts (mem row v) (mem c.args.set v) (sym (c.meet.ensures v) ∙ t) in (partners.0 p.0, p.1),
      λ p. c.meet.ensures v ∙ and_from (mem row v) (mem c.args.set v) (partners.1 p.0) p.1,
    )
