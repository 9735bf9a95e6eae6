use Rattle.graph_core.proofs.from_counting.Common.{◌≡◌, true, length, arith, Within, is_subset, mem}
use Rattle.graph_core.proofs.Common.{row-adjacent}
use Rattle.tight_cuts.proofs.TurnedEdges.{none_out}
use Rattle.tight_cuts.proofs.quick_tightness.has_edge_out.Goals as goal

pub returns-then-contains : goal.returns-then-contains
returns-then-contains c q f =
    let g = c.args.g.now in
    let row = c.index-rows-v.result in
    let v = c.args.v in
    let inside : is_subset row c.args.set ≡ true = grind (arith, q, c.is_subset.ensures) in
    let one : Within (length c.rows.result.now) v = rw c.rows.ensures.one_each c.requires.vertex in
    none_out g (mem c.args.set) row v f
    (λ w. row-adjacent g c.rows.result.now row v w c.rows.ensures one c.index-rows-v.is) inside
