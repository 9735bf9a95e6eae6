use Rattle.tree_check.proofs.from_counting.Common.{◌+◌, ◌*◌, [], arith, eqb-true, set-none}
use Rattle.match_core.proofs.ClearedMatchings.{left_size}
use Rattle.match_core.proofs.MatchingEdges.{rows-matching}
use Rattle.engine_tests.proofs.tests.matchings.misses_two.Goals as goal

pub returns-then-len-lt64 : goal.returns-then-len-lt64
returns-then-len-lt64 c = λ q.
    let s = left_size c.args.graph.now [] c.args.m.now c.keeps_limits.ensures.multigraph.ends (set-none c.args.graph.now.order) c.requires c.keeps_matching.ensures (rows-matching c.args.graph.now c.args.m.now c.requires c.keeps_matching.ensures) in
    let e = eqb-true (c.len-then-len-lt64.result * 2 + 2) c.order.result q in
    let l = c.len-then-len-lt64.ensures in
    let o = c.order.ensures.is in
    omega arith
