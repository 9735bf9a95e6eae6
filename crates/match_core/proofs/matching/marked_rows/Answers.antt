use Rattle.graph_core.proofs.from_counting.Common.{◌≡◌, ℕ, suc, ◌+◌, ◌++◌, ◌∷◌, [], true, sym, ap, ◌∙◌, map, arith, rising_list}
use Rattle.graph_core.proofs.Common.{graph_of}
use Rattle.match_search.specs.Common.{marks, end_a, end_b}
use Rattle.match_core.specs.Common.{row_at}
use Rattle.match_core.specs.declared.matching.MatchRow.{MatchRow}
use Rattle.match_search.proofs.GraphRows.{ends_here}
use Rattle.match_core.proofs.MatchingEdges.{marked_more, marked_none}
use Rattle.match_core.proofs.matching.marked_rows.Goals as goal
use Rattle.match_core.proofs.matching.marked_rows.Goals.{then-mark-k+in_ok-push, else-mark-k}

next : (k : ℕ) → suc k ≡ k + 1
next k = omega arith

pub loop-k-preserved : goal.loop-k-preserved
loop-k-preserved c = elim c.if-mark-k.branch [
  | then-mark-k+in_ok-push w ↦
      let here = ends_here c.args.n c.args.ends.now c.loop-k.k c.loop-k-test.true in
      let a = here.0 in
      let b = here.1 in
      let e = sym (next c.loop-k.k) in
      let pushed : MatchRow = record { edge = c.loop-k.k + 1; a = end_a c.args.ends.now c.loop-k.k; b = end_b c.args.ends.now c.loop-k.k } in
      let row : pushed ≡ row_at (graph_of c.args.n c.args.ends.now) (suc c.loop-k.k) = cc in
      ap (λ v. v.items) w.rows-is ∙ w.in_ok-push.ensures.items ∙ ap (λ (r : MatchRow). c.loop-k.rows.items ++ r ∷ []) row
      ∙ marked_more (graph_of c.args.n c.args.ends.now) (marks c.args.mark.now) c.loop-k.k c.loop-k.rows.items true (ap (marks c.args.mark.now) (next c.loop-k.k) ∙ w.if-mark-k.true) c.loop-k.invariant
      ∙ ap (λ j. map (row_at (graph_of c.args.n c.args.ends.now)) (rising_list j (marks c.args.mark.now))) (next c.loop-k.k)
  | else-mark-k w ↦
      ap (λ v. v.items) w.rows-is
      ∙ marked_none (graph_of c.args.n c.args.ends.now) (marks c.args.mark.now) c.loop-k.k c.loop-k.rows.items (ap (marks c.args.mark.now) (next c.loop-k.k) ∙ w.if-mark-k.false) c.loop-k.invariant
      ∙ ap (λ j. map (row_at (graph_of c.args.n c.args.ends.now)) (rising_list j (marks c.args.mark.now))) (next c.loop-k.k)
]
