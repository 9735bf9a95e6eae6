use Rattle.graph_core.proofs.from_counting.Common.{rules, ◌≡◌, ◌∙◌, ◌++◌, ◌∷◌, [], ap, arith, true, false, List, ℕ, IfOk-weaker, mem}
use Rattle.ear_core.specs.Common.{row_edge, IsTraced}
use Rattle.ear_core.proofs.Mates.{rows-mates}
use Rattle.ear_core.proofs.Following.{GoesOn, goes-on, passed-by, traced-short}
use Rattle.ear_core.proofs.tracing.+trace.Goals as goal
use Rattle.ear_core.proofs.tracing.+trace.Goals.{After-mate_of-back}

pub returns-then-contains : goal.returns-then-contains
returns-then-contains t c =
    let g = c.args.g.now in
    let is = c.keeps_limits.ensures.multigraph.ends in
    let out = c.mate_of-out.result in
    let on : mem c.args.met out.vertex ≡ true = search rules in
    traced-short g is (mem c.args.met) (row_edge c.args.m.now.rows) (rows-mates g is c.args.m.now c.requires.leading) (row_edge c.args.n.now.rows) (rows-mates g is c.args.n.now c.requires.kept) c.requires.mates (mem c.args.used) c.args.v c.requires.vertex c.requires.clear
    out.edge out.vertex c.mate_of-out.ensures.edge c.mate_of-out.ensures.mate (mem c.with-passed.result) (passed-by c.args.used c.with.result c.with-passed.result c.args.v out.vertex c.with.ensures c.with-passed.ensures)
    on c.args.edges.now c.push.new.self c.in_ok-push.ensures.ok

-- the walk goes on from the vertex that the two edges lead to
onward : (t : ℕ) (c : After-mate_of-back t) →
    GoesOn c.args.g.now (mem c.args.met) (row_edge c.args.m.now.rows) (row_edge c.args.n.now.rows) (mem c.args.used) c.args.v (mem c.with-passed.result) c.mate_of-back.result.vertex c.mate_of-out.result.edge c.mate_of-back.result.edge
onward t c =
    let g = c.args.g.now in
    let is = c.keeps_limits.ensures.multigraph.ends in
    let out = c.mate_of-out.result in
    let back = c.mate_of-back.result in
    let off : mem c.args.met out.vertex ≡ false = search rules in
    let joined = passed-by c.args.used c.with.result c.with-passed.result c.args.v out.vertex c.with.ensures c.with-passed.ensures in
    goes-on g is (mem c.args.met) (row_edge c.args.m.now.rows) (rows-mates g is c.args.m.now c.requires.leading) (row_edge c.args.n.now.rows) (rows-mates g is c.args.n.now c.requires.kept) c.requires.mates (mem c.args.used) c.args.v c.requires.vertex c.requires.clear
    out.edge out.vertex c.mate_of-out.ensures.edge c.mate_of-out.ensures.mate (mem c.with-passed.result) joined off back.edge back.vertex c.mate_of-back.ensures.edge c.mate_of-back.ensures.mate

pub trace-requires : goal.trace-requires
trace-requires t c =
    let next = onward t (goal.at.trace-requires t c).After-mate_of-back in
    let fewer = next.fewer in
    let falls = c.decreases in
    (first_of (omega arith, search rules), (c.mate_of-back.ensures.vertex, (c.requires.leading, (c.requires.kept, (c.requires.mates, next.clear)))))

pub returns : goal.returns
returns t c =
    let next = onward t (goal.at.returns t c).After-mate_of-back in
    let g = c.args.g.now in
    let m = row_edge c.args.m.now.rows in
    let n = row_edge c.args.n.now.rows in
    let appended : c.push-2.new.self ≡ (c.args.edges.now ++ c.mate_of-out.result.edge ∷ []) ++ c.mate_of-back.result.edge ∷ [] = c.in_ok-push-2.ensures.ok ∙ ap (λ (es : List ℕ). es ++ c.mate_of-back.result.edge ∷ []) c.in_ok-push.ensures.ok in
    IfOk-weaker c.trace.result (λ after. IsTraced g (mem c.args.met) m n (mem c.with-passed.result) c.mate_of-back.result.vertex c.push-2.new.self c.trace.new.edges (mem after))
    (λ after. IsTraced g (mem c.args.met) m n (mem c.args.used) c.args.v c.args.edges.now c.trace.new.edges (mem after))
    (λ after traced. next.longer c.args.edges.now c.push-2.new.self c.trace.new.edges appended (mem after) traced) c.trace.ensures
