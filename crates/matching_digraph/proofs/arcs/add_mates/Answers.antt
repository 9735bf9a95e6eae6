use Rattle.graph_core.proofs.from_counting.Common.{◌==◌, ◌&&◌, ◌||◌, take, sym, ap, ◌∙◌, arith, list_any_more, get_or_from_slice_get, list_any, item, mem}
use Rattle.barrier_kit.specs.from_match_core.declared.matching.MatchRow.{MatchRow}
use Rattle.matching_digraph.specs.MatchedPairs.{row_joins}
use Rattle.matching_digraph.proofs.arcs.add_mates.Goals as goal

pub loop-i-preserved : goal.loop-i-preserved
loop-i-preserved c = λ u v w.
    let d : MatchRow = record { edge = 0; a = 0; b = 0 } in
    let row = c.row-row.result in
    let before = list_any (row_joins u v) (take c.loop-i.i c.args.m.now.rows) in
    let long = c.loop-i.auto.rows in
    let one = c.add_arc.auto.rows in
    let two = c.add_arc-in-loop-i.auto.rows in
    c.add_arc-in-loop-i.ensures u v (omega arith)
    ∙ ap (λ s. s || (row.b == u && row.a == v)) (c.add_arc.ensures u v (omega arith) ∙ ap (λ s. s || (row.a == u && row.b == v)) (c.loop-i.invariant u v (omega arith)))
    ∙ (grind arith)
    ∙ ap (λ s. mem (item c.args.rows.now u) v || s)
    (ap (λ (r : MatchRow). before || row_joins u v r) (sym (get_or_from_slice_get c.args.m.now.rows c.loop-i.i row d c.row-row.ensures)) ∙ sym (list_any_more (row_joins u v) c.args.m.now.rows c.loop-i.i d (let l = c.loop-i-test.true in let e = c.len-i-end.ensures in omega arith)))
