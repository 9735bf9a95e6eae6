use Rattle.graph_core.proofs.from_counting.Common.{◌∙◌, arith, subst, sym, inl, inr, both_ways, cases_eq}
use Rattle.graph_core.proofs.Common.{Allowed, is_allowed_found, is_allowed_says}
use Rattle.allowed_edges.proofs.verdict.first_unallowed.Goals as goal

pub returns-then-not-is_allowed_in-clause-some : goal.returns-then-not-is_allowed_in-clause-some
returns-then-not-is_allowed_in-clause-some c = grind (arith, both_ways, is_allowed_found)

pub loop-e-preserved : goal.loop-e-preserved
loop-e-preserved c = λ j w. elim (cases_eq j c.loop-e.e) [
  | inl q ↦ subst (Allowed c.args.g.now) (sym q) (is_allowed_says c.args.g.now c.loop-e.e (sym c.is_allowed_in.ensures ∙ c.if-not-is_allowed_in.false))
  | inr d ↦ c.loop-e.invariant j (omega arith)
]

pub returns-else-not-is_allowed_in-clause-none : goal.returns-else-not-is_allowed_in-clause-none
returns-else-not-is_allowed_in-clause-none c = λ j w. elim (cases_eq j c.loop-e.e) [
  | inl q ↦ subst (Allowed c.args.g.now) (sym q) (is_allowed_says c.args.g.now c.loop-e.e (sym c.is_allowed_in.ensures ∙ c.if-not-is_allowed_in.false))
  | inr d ↦ let n = c.size-e-end.ensures.is in c.loop-e.invariant j (omega arith)
]
