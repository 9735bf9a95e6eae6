use Rattle.graph_core.proofs.from_counting.Common.{rules, ◌≡◌, ◌∙◌, ◌+◌, ◌==◌, ◌||◌, ap, drop, false, map, sym, true, or_left, mem}
use Rattle.two_ears.specs.from_match_core.declared.matching.MatchRow.{MatchRow}
use Rattle.ear_core.proofs.MarkedMatchings.{edges-at}
use Rattle.ear_core.proofs.lone_ears.has_edge.Goals as goal

pub returns-then-row-e : goal.returns-then-row-e
returns-then-row-e c =
    let row = c.row.result in
    let here : (row.edge == c.args.e) ≡ true = search rules in
    sym (c.loop-i.invariant ∙ edges-at c.args.m.now.rows c.loop-i.i row c.args.e c.row.ensures ∙ or_left (row.edge == c.args.e) _ here)

pub loop-i-preserved : goal.loop-i-preserved
loop-i-preserved c =
    let row = c.row.result in
    let here : (row.edge == c.args.e) ≡ false = search rules in
    c.loop-i.invariant ∙ edges-at c.args.m.now.rows c.loop-i.i row c.args.e c.row.ensures ∙ ap (λ b. b || mem (map (λ (r : MatchRow). r.edge) (drop (c.loop-i.i + 1) c.args.m.now.rows)) c.args.e) here
