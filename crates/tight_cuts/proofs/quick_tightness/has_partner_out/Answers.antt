use Rattle.graph_core.proofs.from_counting.Common.{◌≡◌, ◌∙◌, ◌&&◌, ℕ, true, length, ap, arith, Within, is_subset, mem, none}
use Rattle.graph_core.proofs.Common.{row-adjacent}
use Rattle.barrier_kit.specs.from_match_core.Common.{are_partners}
use Rattle.tight_cuts.proofs.TurnedEdges.{none_joined}
use Rattle.tight_cuts.proofs.quick_tightness.has_partner_out.Goals as goal

pub returns-clause-none : goal.returns-clause-none
returns-clause-none c q f =
    let g = c.args.g.now in
    let h = c.args.rows.now.graph in
    let set = c.args.set in
    let row = c.in_ok-row.row in
    let near = c.meet-near.result in
    let beside = c.index-rows-v.result in
    let v = c.args.v in
    let t = c.requires.turned in
    let inside : is_subset near set ≡ true = grind (arith, q, c.is_subset.ensures) in
    let one : Within (length c.rows.result.now) v = rw c.rows.ensures.one_each c.requires.vertex in
    let partners : (w : ℕ) → Within h.order w → mem row w ≡ are_partners h none v w =
    rw c.requires.whole at c.in_ok-row.ensures.row in
    none_joined g h (mem set) t.0 v f row near c.keeps_limits.ensures.multigraph.ends t.1 partners
    (λ w. c.meet-near.ensures w ∙ ap (λ b. b && mem row w)
    (row-adjacent g c.rows.result.now beside v w c.rows.ensures one c.index-rows-v.is))
    inside
