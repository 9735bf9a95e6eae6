use Rattle.graph_core.proofs.from_counting.Common.{◌≡◌, ℕ, suc, ◌+◌, ◌==◌, ◌&&◌, ◌||◌, not, Bool, true, false, sym, subst, subst₂, ap, ap₂, ◌∙◌, arith, eq-eqb, eqb-true, length, both_ways, fun_ext, Within, Set, put, mem}
use Rattle.graph_core.proofs.Common.{graph_of}
use Rattle.match_search.specs.Common.{MarksMates, marks, numbers, end_a, end_b}
use Rattle.match_search.proofs.GraphRows.{ends_here, row_graph, size_is}
use Rattle.match_search.proofs.MarkedMates.{marked_mates, marks_more, marks_none}
use Rattle.match_search.proofs.marked.marks_of.Goals as goal
use Rattle.match_search.proofs.marked.marks_of.Goals.{then-is_pair+then-is_addable, then-is_pair+else-is_addable, else-is_pair}

pub loop-k-init : goal.loop-k-init
loop-k-init c = grind (arith, marks_none (graph_of c.args.n c.args.ends.now) (numbers c.args.mate.now) (marks c.in_ok-mark.mark.items) (mem c.empty-seen.result) c.in_ok-mark.ensures.each)

addable : (a b d : Bool) → (not a && (not b && not d)) ≡ true → (a ≡ false) × (b ≡ false) × (d ≡ false)
addable a b d h = grind arith

next : (k : ℕ) → suc k ≡ k + 1
next k = omega arith

pub loop-k-preserved : goal.loop-k-preserved
loop-k-preserved c =
    let g = graph_of c.args.n c.args.ends.now in
    let mate = numbers c.args.mate.now in
    let m : Set = marks c.loop-k.mark.items in
    let seen : Set = mem c.loop-k.seen in
    let k = c.loop-k.k in
    let below = c.loop-k-test.true in
    let here = ends_here c.args.n c.args.ends.now c.loop-k.k c.loop-k-test.true in
    let a = end_a c.args.ends.now c.loop-k.k in
    let b = end_b c.args.ends.now c.loop-k.k in
    let before = c.loop-k.invariant.marking in
    elim c.if-is_pair.branch [
      | then-is_pair+then-is_addable w ↦
          let t = addable (a == b) (mem c.loop-k.seen a) (mem c.loop-k.seen b) (sym w.is_addable.ensures ∙ w.if-is_addable.true) in
          let size = size_is c.args.n c.args.ends.now in
          let more = marks_more g mate m seen k before (mem c.if-is_pair.seen) (omega arith)
          (subst (Within c.args.n) here.0 (c.requires.row.within.a k below)) (subst (Within c.args.n) here.1 (c.requires.row.within.b k below))
          (λ q. both_ways (a == b) t.0 (eq-eqb a b (here.0 ∙ q ∙ sym here.1)))
          (ap mate (sym here.0) ∙ eqb-true (mate a) b (sym c.is_pair.ensures ∙ w.if-is_pair.true) ∙ here.1)
          (ap seen (sym here.0) ∙ t.1) (ap seen (sym here.1) ∙ t.2)
          (λ v. ap (λ s. mem s v) w.seen-is ∙ w.with-seen.ensures v ∙ ap (λ s. s || (b == v)) (w.with.ensures v) ∙ ap₂ (λ x y. (seen v || (x == v)) || (y == v)) here.0 here.1) in
          let now : marks c.if-is_pair.mark.items ≡ put m (suc k) true = fun_ext (λ i. ap (λ s. marks s.items i) w.mark-is ∙ w.mark_place.ensures.each i ∙ ap (λ j. put m j true i) (sym (next k))) in
          record {
            long = ap (λ s. length s.items) w.mark-is ∙ w.mark_place.ensures.length ∙ c.loop-k.invariant.long;
            marking = subst₂ (λ (s : Set) (j : ℕ). MarksMates g mate s (mem c.if-is_pair.seen) j) (sym now) (next k) more;
          }
      | then-is_pair+else-is_addable w ↦ grind arith
      | else-is_pair w ↦ grind arith
    ]

pub returns-clause-mates : goal.returns-clause-mates
returns-clause-mates c = λ r m has.
    let g = graph_of c.args.n c.args.ends.now in
    let size = size_is c.args.n c.args.ends.now in
    let end = c.loop-k.auto.k-end in
    let last = c.loop-k-test.false in
    marked_mates g (row_graph c.args.n c.args.ends.now c.requires.row.within) r m (marks c.loop-k.mark.items) (mem c.loop-k.seen) (numbers c.args.mate.now) has
    (subst (λ (j : ℕ). MarksMates g (numbers c.args.mate.now) (marks c.loop-k.mark.items) (mem c.loop-k.seen) j) (omega arith) c.loop-k.invariant.marking)
