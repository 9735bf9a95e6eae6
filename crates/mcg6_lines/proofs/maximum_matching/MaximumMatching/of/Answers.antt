use Rattle.allowed_edges.proofs.from_counting.Common.{◌≡◌, ◌∙◌, ◌&&◌, ◌==◌, ℕ, List, Bool, not, ap, ap₂, sym, subst, arith, count, everything, mem, rising_list, Within}
use Rattle.allowed_edges.specs.from_match_search.Common.{numbers}
use Rattle.mcg6_lines.proofs.MatedSets.{half_paired, matched_with}
use Rattle.mcg6_lines.proofs.maximum_matching.MaximumMatching.of.Goals as goal

pub returns-clause-right : goal.returns-clause-right
returns-clause-right c =
    let g = c.args.g.now in
    let is = c.keeps_limits.ensures.multigraph.ends in
    let order = c.order-n.ensures.is in
    let mate = c.in_ok-mate.field-0.mate.items in
    let exposed : c.count_exposed-exposed.result ≡ count g.order (λ v. numbers mate v == 0) =
    c.count_exposed-exposed.ensures.is ∙ ap₂ (λ (n : ℕ) (row : List ℕ). count n (λ v. numbers row v == 0)) order c.deref.ensures.value in
    let whole = half_paired g is c.empty.result mate c.in_ok-mate.field-0.sets c.empty.ensures c.in_ok-mate.ensures.frame in
    matched_with g is c.empty.result mate c.in_ok-mate.field-0.sets c.empty.ensures c.in_ok-mate.ensures.frame
    c.full.result c.minus-rest.result _ c.rises.ensures c.rises-2.ensures c.rises-3.ensures
    (c.full.ensures.list ∙ ap (λ (n : ℕ). rising_list n everything) order)
    (λ v w. (c.full.ensures.members v).1 (subst (λ (n : ℕ). Within n v) (sym order) w))
    (λ v. c.minus-rest.ensures v ∙ ap (λ (b : Bool). mem c.full.result v && not b) (c.union.ensures v))
    c.count_exposed-exposed.result exposed (omega (arith, whole.1, exposed, order))
