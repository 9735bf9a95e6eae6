-- Where the search closes, the nodes that it has reached are the least minimum cut.
use Rattle.std.proofs.Common.{◌≡◌, ◌≤◌, ◌∙◌, List, ℕ, ap, subst, arith}
use Rattle.flow_core.specs.Common.{IsLeastCut, IsOutcome, first_node, last_node}
use Rattle.flow_core.proofs.Duality.{flow-le-total, reached_least}
use Rattle.flow_core.proofs.cut.grow_above.Goals as goal

pub growing-smaller : goal.growing-smaller
growing-smaller c =
    let net = c.args.net.now in
    let new = c.grow.new.flow in
    let path = subst (IsOutcome net c.growing.flow.on c.args.source c.args.sink) c.in-Path.is c.in_ok-visits.ensures in
    let first : first_node c.deref.result.now ≡ c.args.source = ap first_node c.deref.ensures.value ∙ path.1 in
    let last : last_node c.deref.result.now ≡ c.args.sink = ap last_node c.deref.ensures.value ∙ path.2 in
    grind (arith, flow-le-total net c.args.source c.args.sink new.on new.value c.requires.bounded.arcs c.requires.source)

pub returns-in-Closed-clause-closed : goal.returns-in-Closed-clause-closed
returns-in-Closed-clause-closed c = λ set q.
    let net = c.args.net.now in
    let same : c.in-Closed.set ≡ set = cc in
    subst (λ (nodes : List ℕ). IsLeastCut net c.args.source c.args.sink nodes c.growing.flow.value × (c.growing.flow.value ≤ c.args.above)) same
    (reached_least net c.args.source c.args.sink c.growing.flow.on c.growing.flow.value c.requires.bounded.arcs c.requires.source c.growing.invariant c.in-Closed.set (subst (IsOutcome net c.growing.flow.on c.args.source c.args.sink) c.in-Closed.is c.in_ok-visits.ensures), let t = c.growing-test.true in omega arith)

pub returns-clause-above : goal.returns-clause-above
returns-clause-above c = λ _. c.growing-test.false
