-- Each turn goes back, goes on or passes an arc over, by the lemmas on a path that is laid.
use Rattle.vset_core.proofs.from_counting.Common.{◌≡◌, ◌+◌, ◌-◌, ◌++◌, ◌∷◌, [], length, get_or, min, sym, ◌∙◌, ap, subst, arith, slice_index, get_or_read}
use Rattle.flow_core.specs.Common.{IsLaid}
use Rattle.flow_core.proofs.Scanning.{Leads-read, taken}
use Rattle.flow_core.proofs.Laying.{IsLaid-push, last-read, work-back, work-pass}
use Rattle.flow_core.proofs.layers.Layers.go_on.Goals as goal

pub returns-then-place-row-clause-less : goal.returns-then-place-row-clause-less
returns-then-place-row-clause-less c = grind (arith, work-back c.args.net.now.nodes)

pub returns-then-room-gt0-clause-laid : goal.returns-then-room-gt0-clause-laid
returns-then-room-gt0-clause-laid c =
    let net = c.args.net.now in
    let rows = c.args.incidence.now in
    let amounts = c.args.amounts.now in
    let levels = c.args.self.now.levels.items in
    let places = c.args.self.now.places.items in
    let path = c.args.self.now.path.items in
    let laid = c.requires.laid in
    let last = c.len-last.result - 1 in
    let some = laid.tree.some in
    let long : length path ≡ last + 1 = let e = c.args.self.now.path.ok.0 in let r = c.len-last.ensures in omega arith in
    let from = c.index-from.result.now in
    let row = c.row-row.result.now in
    let place = c.index-place.result.now in
    let read = last-read net rows amounts levels places path laid last long from c.index-from.ensures place c.index-place.ensures in
    let node = c.end_over-node.result in
    let room = c.room_over-room.result in
    let leads = Leads-read net c.requires.bounded.arcs rows c.requires.incidence amounts from.node row c.row-row.ensures place c.if-place-row.false node c.end_over-node.ensures.joins room c.room_over-room.ensures in
    let every = laid.all_levels in
    let end = c.end_over-node.ensures.within in
    let level : slice_index levels node ≡ last + 1 = sym (get_or_read levels node c.index.result.now (omega arith) c.index.ensures 0) ∙ sym c.from.ensures ∙ c.if-from-last.true in
    let grown : c.push.new.self.items ≡ path ++ taken node last (get_or row place 0) (min room from.room) ∷ [] =
    c.in_ok-push.ensures.items ∙ ap (λ r. path ++ taken node last (get_or row place 0) r ∷ []) c.min.ensures in
    subst (IsLaid net rows amounts levels places) (sym grown)
    (IsLaid-push net rows amounts levels places path laid last long from read.is row c.row-row.ensures place read.at c.if-place-row.false node room leads c.if-room-gt0.true level)

pub returns-clause-less : goal.returns-clause-less
returns-clause-less c = grind (arith, last-read c.args.net.now c.args.incidence.now c.args.amounts.now c.args.self.now.levels.items, work-pass c.args.net.now.nodes c.args.incidence.now)
