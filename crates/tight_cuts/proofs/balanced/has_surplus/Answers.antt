use Rattle.graph_core.proofs.from_counting.Common.{◌∙◌, not, sym, arith, and_parts, mem, set-part}
use Rattle.tight_cuts.proofs.SurplusShores.{lists_tight}
use Rattle.tight_cuts.proofs.balanced.has_surplus.Goals as goal

pub returns : goal.returns
returns c t =
    let near = c.meet-near.result in
    let far = c.minus-far.result in
    let shore = c.args.shore in
    let side = c.args.side in
    lists_tight c.args.g.now c.keeps_limits.ensures.multigraph.ends (mem side) c.requires.side (mem shore) near far
    (set-part _ c.args.g.now.order near shore c.rises.ensures c.requires.shore (λ v h. (and_parts (mem shore v) (mem side v) (sym (c.meet-near.ensures v) ∙ h)).0))
    (set-part _ c.args.g.now.order far shore c.rises-2.ensures c.requires.shore (λ v h. (and_parts (mem shore v) (not (mem side v)) (sym (c.minus-far.ensures v) ∙ h)).0))
    c.meet-near.ensures c.minus-far.ensures (grind arith) (c.keeps_edges.ensures t)
