use Rattle.graph_core.proofs.from_counting.Common.{rules, ◌≡◌, ℕ, suc, ◌+◌, ◌==◌, ◌||◌, true, refl, sym, ap, ◌∙◌, arith, inl, eq-eqb, length, List, with_items_is, both_ways, none, put, mem}
use Rattle.graph_core.proofs.Common.{graph_of}
use Rattle.match_search.specs.Common.{numbers, end_a, end_b, with_pair}
use Rattle.match_search.proofs.ClosingPairs.{mates_alike}
use Rattle.match_search.proofs.FirstMarks.{addable, empty_degree}
use Rattle.match_search.proofs.GraphRows.{size_is, ends_here}
use Rattle.match_search.proofs.GreedyMates.{added_pair, empty_mates, no-mates, pair_free}
use Rattle.match_search.proofs.best.first_pairs.Goals as goal
use Rattle.match_search.proofs.best.first_pairs.Goals.{then-index-eq0+then-index-eq0-2+then-is_addable, then-index-eq0+then-index-eq0-2+else-is_addable, else-index-eq0}

pub loop-e-init : goal.loop-e-init
loop-e-init c = record {
  long = search rules;
  m = none;
  has = empty_mates (graph_of c.args.n c.args.ends.now) (mem c.args.removed) (numbers c.in_ok-mate.mate.items) (λ v. ap (λ (xs : List ℕ). numbers xs v) (c.in_ok-mate.ensures.items_if_clones_equal (λ y q. q)) ∙ no-mates (c.args.n + 1) v);
  free = λ v w q. (q, empty_degree (graph_of c.args.n c.args.ends.now) none (λ e. refl) v);
  met = λ v q z. q;
}

pub loop-e-preserved : goal.loop-e-preserved
loop-e-preserved c = elim c.if-index-eq0.branch [
  | then-index-eq0+then-index-eq0-2+then-is_addable w ↦
      let k = c.loop-e.e-index in
      let g = graph_of c.args.n c.args.ends.now in
      let below = c.loop-e-test.true in
      let here = ends_here c.args.n c.args.ends.now k below in
      let a = end_a c.args.ends.now k in
      let b = end_b c.args.ends.now k in
      let t = addable (a == b) (mem c.loop-e.met a) (mem c.loop-e.met b) (sym w.is_addable.ensures ∙ w.if-is_addable.true) in
      let size = size_is c.args.n c.args.ends.now in
      let before = c.loop-e.invariant in
      let grew : (v : ℕ) → mem c.if-index-eq0.met v ≡ ((mem c.loop-e.met v || (a == v)) || (b == v)) = λ v. ap (λ m. mem m v) w.met-is ∙ w.with-met.ensures v ∙ ap (λ s. s || (b == v)) (w.with.ensures v) in
      let added = added_pair g (mem c.args.removed) before.m (mem c.loop-e.met) (mem c.if-index-eq0.met) (numbers c.loop-e.mate.items) (suc k) a b
      before.has before.free (omega arith) (c.requires.within.a k below) (c.requires.within.b k below)
      (inl (sym here.0, sym here.1)) (λ q. both_ways (a == b) t.0 (eq-eqb a b q)) t.1 t.2 grew in
      let now : c.if-index-eq0.mate.items ≡ w.join.new.mate = grind (arith, with_items_is) in
      let pairs : (v : ℕ) → numbers c.if-index-eq0.mate.items v ≡ with_pair (numbers c.loop-e.mate.items) a b v = λ u. ap (λ (xs : List ℕ). numbers xs u) now ∙ w.join.ensures u ∙ ap (λ (xs : List ℕ). with_pair (numbers xs) a b u) w.deref_mut.ensures.value in
      record {
        long = ap length now ∙ w.join.auto.mate ∙ ap length w.deref_mut.ensures.value ∙ before.long;
        m = put before.m (suc k) true;
        has = mates_alike g (mem c.args.removed) (put before.m (suc k) true) _ (numbers c.if-index-eq0.mate.items) pairs added.0;
        free = added.1;
        met = λ v out z. pair_free (numbers c.loop-e.mate.items) (mem c.loop-e.met) (mem c.if-index-eq0.met) a b v (c.requires.within.a k below).0 (c.requires.within.b k below).0 (grew v) (before.met v out)
            (sym (pairs v) ∙ z);
      }
  | then-index-eq0+then-index-eq0-2+else-is_addable w ↦ grind arith
  | else-index-eq0 w ↦ grind arith
]
