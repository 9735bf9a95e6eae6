use Rattle.graph_core.proofs.from_counting.Common.{arith, mem}
use Rattle.tight_cuts.proofs.ThirdEdges.{one_member, vertex_of}
use Rattle.tight_cuts.proofs.quick_tightness.has_few_later.Goals as goal

pub returns : goal.returns
returns c q e f v w we wf lv lw leaves_v leaves_w =
    let end = c.loop-k-test.false in
    let is = c.order-k-end.ensures.is in
    let graph = c.keeps_limits.ensures.multigraph.ends in
    let bv = vertex_of c.args.g.now (mem c.args.set) v e graph we leaves_v in
    let bw = vertex_of c.args.g.now (mem c.args.set) w f graph wf leaves_w in
    one_member c.loop-k.exits v w (grind (arith, q, c.len.ensures))
    (c.loop-k.invariant e v we lv (let b = bv.1 in omega arith) leaves_v)
    (c.loop-k.invariant f w wf lw (let b = bw.1 in omega arith) leaves_w)
