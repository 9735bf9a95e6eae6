use Rattle.graph_core.proofs.from_counting.Common.{◌≡◌, ℕ, suc, ◌+◌, ◌++◌, ◌∷◌, [], ◌==◌, ◌||◌, true, refl, sym, ap, ap₂, ◌∙◌, subst, map, arith, eq-eqb, both_ways, rising_list, rising_list-congr, none, put, Set, Within, mem}
use Rattle.graph_core.proofs.Common.{graph_of}
use Rattle.match_search.specs.Common.{MarksMates, numbers, end_a, end_b}
use Rattle.match_search.proofs.AlternatingPaths.{put_at, put_off}
use Rattle.match_search.proofs.FirstMarks.{addable}
use Rattle.match_search.proofs.GraphRows.{ends_here, row_graph, size_is}
use Rattle.match_search.proofs.MarkedMates.{marked_mates, marks_more, marks_none}
use Rattle.match_core.specs.Common.{row_at}
use Rattle.match_core.specs.declared.matching.MatchRow.{MatchRow}
use Rattle.match_core.proofs.MatchingEdges.{marked_more, marked_none}
use Rattle.match_core.proofs.matching.paired_rows.Goals as goal
use Rattle.match_core.proofs.matching.paired_rows.Goals.{then-mate-e+then-is_addable+in_ok-push, then-mate-e+else-is_addable, else-mate-e}

next : (k : ℕ) → suc k ≡ k + 1
next k = omega arith

pub loop-k-init : goal.loop-k-init
loop-k-init c = record {
  m = none;
  above = λ e l. refl;
  marking = marks_none (graph_of c.args.n c.args.ends.now) (numbers c.args.mate.now) none (mem c.empty-seen.result) (λ e. refl) (λ v. ap (λ s. mem s v) c.empty-seen.ensures);
  rows_are = c.in_ok-rows.ensures.items;
}

pub loop-k-preserved : goal.loop-k-preserved
loop-k-preserved c =
    let g = graph_of c.args.n c.args.ends.now in
    let mate = numbers c.args.mate.now in
    let seen : Set = mem c.loop-k.seen in
    let k = c.loop-k.k in
    let i = c.loop-k.invariant in
    let below = c.loop-k-test.true in
    let here = ends_here c.args.n c.args.ends.now c.loop-k.k c.loop-k-test.true in
    let a = end_a c.args.ends.now c.loop-k.k in
    let b = end_b c.args.ends.now c.loop-k.k in
    elim c.if-mate-e.branch [
      | then-mate-e+then-is_addable+in_ok-push w ↦
          let t = addable (a == b) (mem c.loop-k.seen a) (mem c.loop-k.seen b) (sym w.is_addable.ensures ∙ w.if-is_addable.true) in
          let size = size_is c.args.n c.args.ends.now in
          let m : Set = put i.m (suc k) true in
          let more = marks_more g mate i.m seen k i.marking (mem c.if-mate-e.seen) (omega arith)
          (subst (Within c.args.n) here.0 (c.requires.row.within.a k below)) (subst (Within c.args.n) here.1 (c.requires.row.within.b k below))
          (λ q. both_ways (a == b) t.0 (eq-eqb a b (here.0 ∙ q ∙ sym here.1)))
          (ap mate (sym here.0) ∙ w.if-mate-e.true ∙ here.1)
          (ap seen (sym here.0) ∙ t.1) (ap seen (sym here.1) ∙ t.2)
          (λ v. ap (λ s. mem s v) w.seen-is ∙ w.with-seen.ensures v ∙ ap (λ s. s || (b == v)) (w.with.ensures v) ∙ ap₂ (λ x y. (seen v || (x == v)) || (y == v)) here.0 here.1) in
          let pushed : MatchRow = record { edge = c.loop-k.k + 1; a = end_a c.args.ends.now c.loop-k.k; b = end_b c.args.ends.now c.loop-k.k } in
          let e = sym (next k) in
          let x = here.0 in
          let y = here.1 in
          let row : pushed ≡ row_at g (suc k) = cc in
          record {
            m = m;
            above = λ e l. put_off i.m (suc k) true e (λ q. absurd (omega arith)) ∙ i.above e (omega arith);
            marking = subst (λ (j : ℕ). MarksMates g mate m (mem c.if-mate-e.seen) j) (next k) more;
            rows_are = ap (λ v. v.items) w.rows-is ∙ w.in_ok-push.ensures.items ∙ ap (λ (r : MatchRow). c.loop-k.rows.items ++ r ∷ []) row
                ∙ marked_more g m k c.loop-k.rows.items true (put_at i.m (suc k) true) (i.rows_are ∙ ap (map (row_at g)) (rising_list-congr k i.m m (λ v wv. sym (put_off i.m (suc k) true v (λ q. absurd (omega arith))))))
                ∙ ap (λ j. map (row_at g) (rising_list j m)) (next k);
          }
      | then-mate-e+else-is_addable w ↦ record {
        m = i.m;
        above = λ e l. i.above e (omega arith);
        marking = grind arith;
        rows_are = ap (λ v. v.items) w.rows-is ∙ marked_none g i.m k c.loop-k.rows.items (i.above (suc k) (omega arith)) i.rows_are ∙ ap (λ j. map (row_at g) (rising_list j i.m)) (next k);
      }
      | else-mate-e w ↦ record {
        m = i.m;
        above = λ e l. i.above e (omega arith);
        marking = grind arith;
        rows_are = ap (λ v. v.items) w.rows-is ∙ marked_none g i.m k c.loop-k.rows.items (i.above (suc k) (omega arith)) i.rows_are ∙ ap (λ j. map (row_at g) (rising_list j i.m)) (next k);
      }
    ]

pub returns : goal.returns
returns c =
    let size = size_is c.args.n c.args.ends.now in
    let end = c.loop-k.auto.k-end in
    let last = c.loop-k-test.false in
    let i = c.loop-k.invariant in
    let k : c.loop-k.k ≡ Rattle.graph_core.specs.Common.size (graph_of c.args.n c.args.ends.now) = omega arith in
    record {
      m = i.m;
      matching = i.marking.matching;
      rows_are = i.rows_are ∙ ap (λ j. map (row_at (graph_of c.args.n c.args.ends.now)) (rising_list j i.m)) k;
      mates = λ r f has. marked_mates (graph_of c.args.n c.args.ends.now) (row_graph c.args.n c.args.ends.now c.requires.row.within) r f i.m (mem c.loop-k.seen) (numbers c.args.mate.now) has
          (subst (λ (j : ℕ). MarksMates (graph_of c.args.n c.args.ends.now) (numbers c.args.mate.now) i.m (mem c.loop-k.seen) j) k i.marking);
    }
