use Rattle.allowed_edges.proofs.from_counting.Common.{◌+◌, ◌∙◌, ap, arith, inl, inr, subst, sym, IsTrue, cases_eq}
use Rattle.mcg6_lines.specs.Selecting.{HasAllPartners}
use Rattle.mcg6_lines.proofs.bicritical.is_critical.Goals as goal

pub loop-k-preserved : goal.loop-k-preserved
loop-k-preserved c =
    let same = c.in_ok-has_all_partners.ensures.same in
    let holds : IsTrue c.in_ok-has_all_partners.field-0 = grind (arith, c.if-not-branch.false) in
    record {
      graph = ap (λ rows. rows.graph) same ∙ c.loop-k.invariant.graph;
      whole = ap (λ rows. rows.removed) same ∙ c.loop-k.invariant.whole;
      all = λ u within. elim (cases_eq u (c.loop-k.k + 1)) [
        | inl last ↦ subst (HasAllPartners c.args.g.now) (sym last) (c.in_ok-has_all_partners.ensures.all.0 holds)
        | inr before ↦ c.loop-k.invariant.all u (within.0, omega (arith, before, within.1))
      ];
    }
