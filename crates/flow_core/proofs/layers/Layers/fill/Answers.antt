-- Where the flow grows, it comes nearer to the sum of all capacities, which outweighs the new
-- start of the path.
use Rattle.vset_core.proofs.from_counting.Common.{◌≡◌, ◌≢◌, ◌+◌, ◌-◌, ◌≤◌, List, length, sym, ◌∙◌, ap, subst, arith, get_or_read, Within}
use Rattle.flow_core.specs.Common.{visit_at, first_node, last_node, work_left}
use Rattle.flow_core.specs.declared.search.Visit.{Visit}
use Rattle.flow_core.proofs.Duality.{flow-le-total}
use Rattle.flow_core.proofs.Laying.{work-start}
use Rattle.flow_core.proofs.layers.Layers.fill.Goals as goal

pub filling-smaller-then-index-sink : goal.filling-smaller-then-index-sink
filling-smaller-then-index-sink c =
    let net = c.args.net.now in
    let rows = c.args.incidence.now in
    let laid = c.in_ok-go_on.ensures.laid in
    let places = c.go_on.new.self.places.items in
    let path = c.go_on.new.self.path.items in
    let less = c.in_ok-go_on.ensures.less c.if-not-branch.false in
    let start : work_left net.nodes rows places c.truncate.new.self.items ≤ work_left net.nodes rows places path + 256 =
    subst (λ (p : List Visit). work_left net.nodes rows places p ≤ work_left net.nodes rows places path + 256) (sym c.truncate.ensures.items) (work-start net.nodes rows places path) in
    let some = laid.tree.some in
    let len = c.go_on.new.self.path.ok.0 in
    let at : c.len.result - 1 ≡ length path - 1 = let e = c.len.ensures in omega arith in
    let end : visit_at path (length path - 1) ≡ c.index.result.now =
    ap (visit_at path) (sym at) ∙ sym (get_or_read path (c.len.result - 1) c.index.result.now (omega arith) c.index.ensures (record { node = 0; parent = 0; arc = 0; room = 0 })) in
    let first : first_node c.deref.result.now ≡ first_node c.args.self.now.path.items = ap first_node c.deref.ensures.value ∙ c.in_ok-go_on.ensures.first ∙ c.filling.invariant.first in
    let last : last_node c.deref.result.now ≡ c.args.sink = ap last_node c.deref.ensures.value ∙ ap (λ (u : Visit). u.node) end ∙ c.if-index-sink.true in
    let differ : first_node c.deref.result.now ≢ last_node c.deref.result.now = λ e. c.requires.differ (sym first ∙ e ∙ last) in
    let within = subst (λ (p : List Visit). Within net.nodes (first_node p)) (sym c.deref.ensures.value) (laid.tree.nodes 0 some) in
    let most = flow-le-total net (first_node c.deref.result.now) (last_node c.deref.result.now) c.augment.new.self.on c.augment.new.self.value c.requires.bounded.arcs within c.augment.ensures.flow differ in
    let more = c.augment.ensures.more in
    omega arith
