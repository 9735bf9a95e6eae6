use Rattle.graph_core.proofs.from_counting.Common.{arith, ◌≡◌, subst, sym, true, Within}
use Rattle.graph_core.proofs.Common.{size}
use Rattle.ear_core.specs.Common.{IsAsked, with_edges, asked_too}
use Rattle.ear_core.proofs.FirstFaults.{first-item, items-behind}
use Rattle.ear_core.proofs.Settling.{settled-result, asked-edges}
use Rattle.ear_core.proofs.stages.+least_refused.Goals as goal

pub settle-requires-clause-edge : goal.settle-requires-clause-edge
settle-requires-clause-edge t c = first-item (Within (size c.args.g.now)) c.in-Some.e.now c.args.edges.now c.in-Some.others.now c.in-Some.ensures.cases.0 c.requires.edges

pub least_refused-requires : goal.least_refused-requires
least_refused-requires t c = grind (arith, items-behind (Within (size c.args.g.now)) c.in-Some.e.now c.args.edges.now c.in-Some.others.now c.in-Some.ensures.cases.0 c.requires.edges)

pub returns-clause-settled : goal.returns-clause-settled
returns-clause-settled t c = λ f done is marked known.
    let e = c.in-Some.e.now in
    let edges = c.args.edges.now in
    let others = c.in-Some.others.now in
    let begins = c.in-Some.ensures.cases.0 in
    let next = c.in_ok-next.ensures.settled f done is (first-item (λ d. f d ≡ true) e edges others begins marked) known in
    settled-result c.args.g.now f (with_edges (asked_too done e) others) (with_edges done edges) c.least_refused.result
    (asked-edges done e edges others begins) (c.least_refused.ensures.settled f (asked_too done e) (subst (IsAsked c.args.g.now f) (sym c.in_ok-next.ensures.same) is) (items-behind (λ d. f d ≡ true) e edges others begins marked) next)
