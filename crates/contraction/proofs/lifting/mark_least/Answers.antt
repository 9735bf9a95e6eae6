use Rattle.graph_core.proofs.from_counting.Common.{ℕ, ◌||◌, ◌==◌, sym, ap, ◌∙◌, take, or_assoc, list_any}
use Rattle.match_core.specs.from_match_search.Common.{marks}
use Rattle.match_core.specs.declared.matching.MatchRow.{MatchRow}
use Rattle.match_core.proofs.from_match_search.GrownRows.{with_put}
use Rattle.contraction.specs.LeastEdges.{least_at}
use Rattle.contraction.proofs.LeastEdges.{any-more}
use Rattle.contraction.proofs.lifting.mark_least.Goals as goal

pub loop-i-preserved : goal.loop-i-preserved
loop-i-preserved c =
    let rows = c.args.m.now.rows in
    let i = c.loop-i.i in
    let least = c.least-least.result in
    record {
      same = c.mark_place.ensures.length ∙ c.loop-i.invariant.same;
      each = λ e.
          let passes = λ (row : MatchRow). least_at c.args.q.now row.edge == e in
          c.mark_place.ensures.each e ∙ sym (with_put (marks c.loop-i.mark.items) least e) ∙ ap (λ b. b || (least == e)) (c.loop-i.invariant.each e)
          ∙ or_assoc (marks c.args.mark.now.items e) (list_any passes (take i rows)) (least == e)
          ∙ ap (λ (f : ℕ). marks c.args.mark.now.items e || (list_any passes (take i rows) || (f == e))) c.least-least.ensures.value
          ∙ ap (λ b. marks c.args.mark.now.items e || b) (sym (any-more passes rows i c.row-row.result c.row-row.ensures));
    }
