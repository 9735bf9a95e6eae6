use Rattle.graph_core.proofs.from_counting.Common.{◌≡◌, Bool, false, ◌||◌, ◌==◌, ◌∷◌, [], sym, ap, ◌∙◌, get_or, take, map, arith, take_more, map-append, mem-append, mem}
use Rattle.match_search.specs.Common.{marks}
use Rattle.match_core.specs.declared.matching.MatchRow.{MatchRow}
use Rattle.match_search.proofs.GrownRows.{with_put}
use Rattle.match_core.proofs.MatchingEdges.{edge_of}
use Rattle.match_core.proofs.matching.mark_rows.Goals as goal

or_more : (a b d : Bool) → ((a || b) || d) ≡ (a || (b || (d || false)))
or_more a b d = grind arith

pub loop-row-preserved : goal.loop-row-preserved
loop-row-preserved c =
    let none : MatchRow = record { edge = 0; a = 0; b = 0 } in
    let row = get_or c.args.rows.now c.loop-row.row-index (record { edge = 0; a = 0; b = 0 }) in
    let before = map edge_of (take c.loop-row.row-index c.args.rows.now) in
    record {
      same = c.mark_place.ensures.length ∙ c.loop-row.invariant.same;
      each = λ i.
          c.mark_place.ensures.each i ∙ sym (with_put (marks c.loop-row.mark.items) row.edge i) ∙ ap (λ b. b || (row.edge == i)) (c.loop-row.invariant.each i)
          ∙ or_more (marks c.args.mark.now.items i) (mem before i) (row.edge == i)
          ∙ ap (λ b. marks c.args.mark.now.items i || b) (sym (mem-append before (row.edge ∷ []) i))
          ∙ ap (λ xs. marks c.args.mark.now.items i || mem xs i) (sym (map-append edge_of (take c.loop-row.row-index c.args.rows.now) (row ∷ [])))
          ∙ ap (λ xs. marks c.args.mark.now.items i || mem (map edge_of xs) i) (sym (take_more c.args.rows.now c.loop-row.row-index none c.loop-row-test.true));
    }
