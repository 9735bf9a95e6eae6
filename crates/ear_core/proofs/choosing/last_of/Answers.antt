use Rattle.graph_core.proofs.from_counting.Common.{arith, subst, All, Within}
use Rattle.graph_core.proofs.Common.{size}
use Rattle.ear_core.proofs.Mates.{other_end-within}
use Rattle.ear_core.proofs.Walking.{all-behind}
use Rattle.ear_core.proofs.choosing.last_of.Goals as goal

pub edges-preserved : goal.edges-preserved
edges-preserved c =
    let g = c.args.g.now in
    let e = c.in-Some.e.now in
    let others = c.in-Some.others.now in
    let begins = c.in-Some.ensures.cases.0 in
    let all = subst (All (Within (size g))) begins c.edges.invariant.edges in
    grind (arith, other_end-within g c.keeps_limits.ensures.multigraph.ends e c.edges.last, all-behind (size g) e others all)
