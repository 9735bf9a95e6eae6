use Rattle.tree_check.proofs.from_counting.Common.{◌≡◌, ℕ, ◌∙◌, ◌↔◌, ap, subst, sym, true, Within, is_odd, mem}
use Rattle.engine_tests.proofs.OddShores.{remainder-odd, subset-rises}
use Rattle.engine_tests.proofs.tests.cuts.is_odd_shore.Goals as goal

pub returns-then-is_subset-clause-rising : goal.returns-then-is_subset-clause-rising
returns-then-is_subset-clause-rising c q =
    let members = subst (λ (n : ℕ). (v : ℕ) → (mem c.full.result v ≡ true) ↔ Within n v) c.order.ensures.is c.full.ensures.members in
    subset-rises c.args.graph.now.order c.args.set c.full.result c.rises.ensures members (sym c.is_subset.ensures ∙ c.if-is_subset.true)

pub returns-then-is_subset-clause-odd : goal.returns-then-is_subset-clause-odd
returns-then-is_subset-clause-odd c q = ap is_odd (sym c.len.ensures) ∙ remainder-odd c.len.result q
