-- Each arc at the node is passed over or taken, by the lemmas on a search that is scanning a row.
use Rattle.vset_core.proofs.from_counting.Common.{sym, ◌∙◌, arith, get_or_read}
use Rattle.flow_core.proofs.Scanning.{IsScanning-end, IsTaken, Leads-read, taken-facts}
use Rattle.flow_core.proofs.search.scan.Goals.{In_ok-push}
use Rattle.flow_core.proofs.search.scan.Goals as goal

-- the state after an arc is taken
taken-now : (c : In_ok-push) → IsTaken c.args.net.now c.args.amounts.now c.args.sink c.args.head c.index-from.result.now c.row-i-items.result.now c.loop-i.i-index c.loop-i.reached.visits.items c.end_over-node.result c.push.new.self.visits.items c.push.new.self.seen
taken-now c =
    let net = c.args.net.now in
    let from = c.index-from.result.now in
    let row = c.row-i-items.result.now in
    taken-facts net c.args.amounts.now c.args.sink c.args.head from row c.loop-i.i-index c.loop-i.reached.visits.items c.loop-i.reached.seen c.loop-i.invariant.scanning
    c.end_over-node.result c.room_over-room.result (Leads-read net c.requires.bounded.arcs c.args.incidence.now c.requires.incidence c.args.amounts.now from.node row c.row-i-items.ensures c.loop-i.i-index c.loop-i-test.true c.end_over-node.result c.end_over-node.ensures.joins c.room_over-room.result c.room_over-room.ensures) c.if-room-eq0.false (sym c.if-contains.ensures)
    c.min.result c.min.ensures c.push.new.self.visits.items c.in_ok-push.ensures.visits c.push.new.self.seen c.in_ok-push.ensures.seen

pub loop-i-init : goal.loop-i-init
loop-i-init c = grind (arith, get_or_read c.args.reached.now.visits.items c.args.head c.index-from.result.now c.requires.head c.index-from.ensures)

pub loop-i-preserved-then-contains : goal.loop-i-preserved-then-contains
loop-i-preserved-then-contains c = grind arith

pub loop-i-preserved-then-room-eq0 : goal.loop-i-preserved-then-room-eq0
loop-i-preserved-then-room-eq0 c = grind arith

pub loop-i-preserved : goal.loop-i-preserved
loop-i-preserved c = let t = taken-now (goal.at.loop-i-preserved c).In_ok-push in record { scanning = t.scanning c.if-node-sink.false; first = t.first ∙ c.loop-i.invariant.first }

pub returns-then-node-sink : goal.returns-then-node-sink
returns-then-node-sink c = let t = taken-now (goal.at.returns-then-node-sink c).In_ok-push in record { first = t.first ∙ c.loop-i.invariant.first; tree = t.tree; found = t.last ∙ c.if-node-sink.true }

pub returns : goal.returns
returns c = record {
  first = c.loop-i.invariant.first;
  tree = c.loop-i.invariant.scanning.search.tree;
  found = IsScanning-end c.args.net.now c.args.incidence.now c.args.amounts.now c.args.sink c.args.head c.index-from.result.now c.row-i-items.result.now c.loop-i.i-index c.loop-i.reached.visits.items c.loop-i.reached.seen c.requires.incidence c.row-i-items.ensures c.loop-i-test.false c.loop-i.invariant.scanning;
}
