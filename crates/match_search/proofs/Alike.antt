-- Paths, forests, matchings and cycles depend only on the values at their places. Each condition
-- uses only places within range, so functions that agree there satisfy the same conditions.
use Rattle.graph_core.proofs.from_counting.Common.{◌≡◌, ℕ, suc, ◌+◌, ◌≤◌, ◌<◌, true, sym, ap, ◌∙◌, arith, subst, Within, Set}
use Rattle.graph_core.proofs.Common.{degree_congr, Graph, degree, first_end, second_end, size, IsMatching}
use Rattle.match_search.proofs.LongerPaths.{ends_by}
use Rattle.match_search.specs.Common.{IsOddCycle, IsAlternating, IsAlternatingForest}

-- a path depends only on the values at its places
pub path_alike : (g : Graph) (r f : Set) (k : ℕ) (v e v' e' : ℕ → ℕ) → ((j : ℕ) → j ≤ k + k → v' j ≡ v j) → ((j : ℕ) → j < k + k → e' j ≡ e j) → IsAlternating g r f k v e → IsAlternating g r f k v' e'
path_alike g r f k v e v' e' hv he p = record {
  path = record {
    apart = λ i j li lj q. p.path.apart i j li lj (sym (hv i li) ∙ q ∙ hv j lj);
    within = λ i l. subst (λ z. Within g.order z) (sym (hv i l)) (p.path.within i l);
    outside = λ i l. ap r (hv i l) ∙ p.path.outside i l;
    real = λ i l. subst (λ z. Within (size g) z) (sym (he i l)) (p.path.real i l);
    ends = λ i l. ends_by g (e' i) (e i) (v' i) (v i) (v' (suc i)) (v (suc i)) (he i l) (hv i (omega arith)) (hv (suc i) (omega arith)) (p.path.ends i l);
  };
  free = ap (degree g f) (hv 0 (omega arith)) ∙ p.free;
  turns = λ i l. ap f (he i l) ∙ p.turns i l;
}

-- a forest depends only on its sets and on the values at the places of its paths
pub forest_alike : (g : Graph) (r f outer inner : Set) (k : ℕ → ℕ) (v e : ℕ → ℕ → ℕ) (outer' inner' : Set) (k' : ℕ → ℕ) (v' e' : ℕ → ℕ → ℕ) →
    ((u : ℕ) → outer' u ≡ outer u) → ((u : ℕ) → inner' u ≡ inner u) → ((u : ℕ) → outer u ≡ true → k' u ≡ k u) →
    ((u : ℕ) → outer u ≡ true → (j : ℕ) → j ≤ k u + k u → v' u j ≡ v u j) → ((u : ℕ) → outer u ≡ true → (j : ℕ) → j < k u + k u → e' u j ≡ e u j) →
    IsAlternatingForest g r f outer inner k v e → IsAlternatingForest g r f outer' inner' k' v' e'
forest_alike g r f outer inner k v e outer' inner' k' v' e' ho hi hk hv he forest = record {
  outer_in = λ u t. forest.outer_in u (sym (ho u) ∙ t);
  inner_in = λ u t. forest.inner_in u (sym (hi u) ∙ t);
  apart = λ u t. hi u ∙ forest.apart u (sym (ho u) ∙ t);
  misses = λ u w ru du. ho u ∙ forest.misses u w ru du;
  mates = λ d w fd. let m = forest.mates d w fd in (ho (first_end g d) ∙ m.0 ∙ sym (hi (second_end g d)), hi (first_end g d) ∙ m.1 ∙ sym (ho (second_end g d)));
  seen = λ u t. let s = forest.seen u (sym (hi u) ∙ t) in (s.0, s.1, s.2, s.3, ho s.1 ∙ s.4);
  path = λ u t. let o = sym (ho u) ∙ t in subst (λ h. IsAlternating g r f h (v' u) (e' u)) (sym (hk u o)) (path_alike g r f (k u) (v u) (e u) (v' u) (e' u) (hv u o) (he u o) (forest.path u o));
  last = λ u t. let o = sym (ho u) ∙ t in ap (λ h. v' u (h + h)) (hk u o) ∙ hv u o (k u + k u) (omega arith) ∙ forest.last u o;
  sides = λ u t j l. let o = sym (ho u) ∙ t in let lj : j ≤ k u + k u = (let q = hk u o in omega arith) in let s = forest.sides u o j lj in
      (ap outer' (hv u o j lj) ∙ ho (v u j) ∙ s.0, ap inner' (hv u o j lj) ∙ hi (v u j) ∙ s.1);
}

-- a matching depends only on its values at the edges
pub matching_alike : (g : Graph) (r m n : Set) → ((e : ℕ) → Within (size g) e → n e ≡ m e) → IsMatching g r m → IsMatching g r n
matching_alike g r m n h mm = grind (arith, degree_congr g n m)

-- a cycle depends only on the values at its places
pub cycle_alike : (g : Graph) (r : Set) (n : ℕ) (c e c' e' : ℕ → ℕ) → ((i : ℕ) → Within n i → c' i ≡ c i) → ((i : ℕ) → Within n i → e' i ≡ e i) → IsOddCycle g r n c e → IsOddCycle g r n c' e'
cycle_alike g r n c e c' e' hc he cyc = grind arith
