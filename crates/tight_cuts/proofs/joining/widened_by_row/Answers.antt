use Rattle.graph_core.proofs.from_counting.Common.{◌≡◌, ℕ, ◌∙◌, ◌||◌, ap, subst, arith, common_steps, item, mem, Within}
use Rattle.graph_core.proofs.Common.{Graph}
use Rattle.barrier_kit.specs.from_match_core.Common.{are_partners}
use Rattle.tight_cuts.proofs.OneSided.{widened_by_row}
use Rattle.tight_cuts.proofs.joining.widened_by_row.Goals as goal

pub returns-clause-reach : goal.returns-clause-reach
returns-clause-reach c =
    let is : c.index-rows-u.result ≡ item c.rows.result.now c.args.u = grind (arith, common_steps) in
    widened_by_row c.args.g.now c.keeps_limits.ensures.multigraph c.args.e c.args.u c.requires.edge (mem c.args.rows.now.removed) (mem c.args.reach) (mem c.union.result) c.in_ok-row.row c.index-rows-u.result
    c.requires.rows.removed c.requires.reach c.requires.member
    (subst (λ (h : Graph). (v : ℕ) → Within h.order v → mem c.in_ok-row.row v ≡ are_partners h (mem c.args.rows.now.removed) c.args.u v) c.requires.rows.graph c.in_ok-row.ensures.row)
    (λ v. ap (λ s. mem s v) is ∙ c.rows.ensures.adjacent_is c.args.u v c.requires.vertex)
    (λ v. c.union.ensures v ∙ ap (λ b. mem c.args.reach v || b) (c.meet-beside.ensures v))
