use Rattle.graph_core.proofs.from_counting.Common.{fronts, rules, ℕ, List, Bool, YieldsList-from_slice, YieldsList-from_copied, mem}
use Rattle.itertools.proofs.ConsumerLemmas.{find_at-of-run}
use Rattle.contraction.proofs.partition.first_holding.Goals as goal

pub returns : goal.returns
returns c =
    let r = c.find_position.ensures.runs in
    let h : List ℕ → Bool = λ b. mem b c.args.v in
    let slice = YieldsList-from_slice {s = c.iter.result} c.args.blocks.now (search rules) in
    let road = YieldsList-from_copied {steps = fronts} {s = c.copied-items.result} {ys = c.args.blocks.now} (rw c.copied-items.ensures.source slice) in
    let b = r.2 h (search rules) in
    find_at-of-run road r.0 r.1 h _ b.0 b.1
