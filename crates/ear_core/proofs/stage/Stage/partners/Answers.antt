use Rattle.graph_core.proofs.from_counting.Common.{◌≡◌, ◌↔◌, ◌∙◌, List, ℕ, ap, not, subst, sym, true, both_ways, item, mem, true≢false, Within}
use Rattle.ear_core.proofs.StagePartners.{partners-on}
use Rattle.ear_core.specs.Common.{ArePartnersOn, IsAsked, is_met}
use Rattle.ear_core.specs.declared.asking.Asked.{Asked}
use Rattle.ear_core.proofs.stage.Stage.partners.Goals as goal

pub returns-then-contains-clause-row : goal.returns-then-contains-clause-row
returns-then-contains-clause-row c = λ g f is asks v.
    let u = c.args.u in
    let asked = c.self.inside.asked in
    let here = subst (IsAsked g f) (sym c.self.view_is) asks in
    let wu = subst (λ n. Within n u) asks.order c.requires in (
      λ t. absurd (true≢false (sym t ∙ ap (λ (xs : List ℕ). mem xs v) c.empty.ensures)),
      λ p. absurd (both_ways (not (is_met g f u)) (ap not p.1) (sym (here.outside u wu) ∙ sym c.contains.ensures ∙ c.if-contains.true)),
    )

pub returns-then-contains-2-clause-row : goal.returns-then-contains-2-clause-row
returns-then-contains-2-clause-row c = λ g f is asks v.
    let u = c.args.u in
    let asked = c.self.inside.asked in
    let rows = c.self.invariant in
    let su = subst (λ (a : Asked). Within a.stage.order u) (sym c.self.view_is) c.requires in
    let known = sym c.contains-2.ensures ∙ c.if-contains-2.true in
    let row : item c.self.inside.rows.items u ≡ c.row_of.result = ap (λ (rows : List (List ℕ)). item rows u) (sym c.deref.ensures.value) ∙ sym c.row_of.ensures in
    subst (λ (xs : List ℕ). (mem xs v ≡ true) ↔ ArePartnersOn g f u v) row
    (partners-on g is f asked (subst (IsAsked g f) (sym c.self.view_is) asks) u su (mem (item c.self.inside.rows.items u)) (λ w t. rows.within u w su known t) (λ w sw. rows.row_is u w su sw known) v)

pub returns-clause-row : goal.returns-clause-row
returns-clause-row c = λ g f is asks v.
    let u = c.args.u in
    let su = subst (λ (a : Asked). Within a.stage.order u) (sym c.self.view_is) c.requires in
    partners-on g is f c.self.inside.asked (subst (IsAsked g f) (sym c.self.view_is) asks) u su (mem c.in_ok-row.row) c.in_ok-row.ensures.within c.in_ok-row.ensures.row v
