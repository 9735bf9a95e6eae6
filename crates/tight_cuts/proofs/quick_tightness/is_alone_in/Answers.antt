use Rattle.graph_core.proofs.from_counting.Common.{arith, mem}
use Rattle.tight_cuts.proofs.TurnedEdges.{end_within, turned_alone, turned_of}
use Rattle.tight_cuts.proofs.quick_tightness.is_alone_in.Goals as goal

pub new-requires : goal.new-requires
new-requires c =
    let h = c.requires.held in
    turned_of c.args.g.now c.args.turned.now (mem c.args.set) c.args.u h.0 c.args.held.now c.keeps_limits.ensures.multigraph.ends c.requires.turned h.1 h.2 h.3

pub returns : goal.returns
returns c t =
    let g = c.args.g.now in
    let h = c.args.turned.now in
    let is = c.keeps_limits.ensures.multigraph.ends in
    let multi = c.keeps_limits-2.ensures.multigraph in
    turned_alone g h (mem c.args.set) c.args.u is multi c.requires.turned
    (λ f v w l leaves.
    let e = c.loop-k-test.false in
    let s = c.order-k-end.ensures.is in
    let x = (end_within g f v is w leaves.end).1 in
    c.loop-k.invariant.apart f v w l (omega arith) leaves)
