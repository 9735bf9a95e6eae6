use Rattle.std.proofs.Common.{rules, ◌≡◌, ◌∙◌, ◌+◌, ◌||◌, ◌==◌, ap, cond, drop, true, false, sym}
use Rattle.ear_core.specs.Common.{row_edge}
use Rattle.ear_core.proofs.Following.{row-at}
use Rattle.ear_core.proofs.tracing.edge_at.Goals as goal

pub returns-then-is_at : goal.returns-then-is_at
returns-then-is_at c =
    let row = c.row-row.result in
    let rows = c.args.m.now.rows in
    let here : (row.a == c.args.v || row.b == c.args.v) ≡ true = search rules in
    sym (c.loop-i.invariant ∙ row-at rows c.loop-i.i row c.args.v c.row-row.ensures ∙ ap (λ b. cond b row.edge (row_edge (drop (c.loop-i.i + 1) rows) c.args.v)) here)

pub loop-i-preserved : goal.loop-i-preserved
loop-i-preserved c =
    let row = c.row-row.result in
    let rows = c.args.m.now.rows in
    let here : (row.a == c.args.v || row.b == c.args.v) ≡ false = search rules in
    c.loop-i.invariant ∙ row-at rows c.loop-i.i row c.args.v c.row-row.ensures ∙ ap (λ b. cond b row.edge (row_edge (drop (c.loop-i.i + 1) rows) c.args.v)) here
