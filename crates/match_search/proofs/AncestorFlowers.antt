-- The blossom that an edge closes between an outer vertex and another one on its path: the latter
-- is the base, and the others are the vertices after it.
use Rattle.graph_core.proofs.from_counting.Common.{◌≡◌, ℕ, zero, suc, ◌+◌, ◌≤◌, true, refl, sym, ap, ◌∙◌, arith, inl, inr, ◌||◌, ◌==◌, eq-eqb, eqb-true, List, [], ◌∷◌, cases_eq, or_cases, or_false, or_left, or_right, true≢false, Set, mem}
use Rattle.graph_core.proofs.Common.{Graph, missed_count}
use Rattle.match_search.specs.Common.{ClosesForest, HoldsFlower, IsLastIn, IsOuterOf}
use Rattle.match_search.specs.declared.alternating.AlternatingForest.{AlternatingForest}
use Rattle.match_search.specs.declared.growing.Adjacent.{Adjacent}
use Rattle.match_search.proofs.PathFlowers.{flower_closed}

-- the outer vertices of a path of k pairs of edges
outer_list : (ℕ → ℕ) → ℕ → List ℕ
outer_list p zero = p 0 ∷ []
outer_list p (suc k) = p (suc k + suc k) ∷ outer_list p k

listed_outer : (p : ℕ → ℕ) (k v : ℕ) → mem (outer_list p k) v ≡ true → IsOuterOf p k v
unfolding outer_list
listed_outer p zero v m = (0, omega arith, eqb-true (p 0) v (sym (or_false (p 0 == v)) ∙ m))
listed_outer p (suc k) v m = elim (or_cases (p (suc k + suc k) == v) (mem (outer_list p k) v) m) [
  | inl e ↦ (suc k, omega arith, eqb-true (p (suc k + suc k)) v e)
  | inr e ↦ let w = listed_outer p k v e in let l = w.1 in (w.0, omega arith, w.2)
]

outer_listed : (p : ℕ → ℕ) (k v s : ℕ) → s ≤ k → p (s + s) ≡ v → mem (outer_list p k) v ≡ true
unfolding outer_list
outer_listed p zero v s l e = or_left (p 0 == v) (mem [] v) (eq-eqb (p 0) v (ap p (omega arith) ∙ e))
outer_listed p (suc k) v s l e = elim (cases_eq s (suc k)) [
  | inl q ↦ or_left (p (suc k + suc k) == v) (mem (outer_list p k) v) (eq-eqb (p (suc k + suc k)) v (ap (λ i. p (i + i)) (sym q) ∙ e))
  | inr n ↦ or_right (p (suc k + suc k) == v) (mem (outer_list p k) v) (outer_listed p k v s (omega arith) e)
]

module _ (g : Graph) (r f : Set) (mate : List ℕ) (t : AlternatingForest) (o : Adjacent) (closes : ClosesForest g r f mate t o) (one : missed_count g r f ≡ 1)
    (way members : List ℕ) (last : IsLastIn closes.holds.k closes.holds.v (o.w ∷ []) o.v o.w way) (members_are : (v : ℕ) → mem members v ≡ (mem way v || o.w == v)) where
  abbrev k : ℕ → ℕ
  k = closes.holds.k

  abbrev path : List ℕ
  path = outer_list (closes.holds.v o.v) (k o.v)

  base_listed : mem path o.w ≡ true
  base_listed = outer_listed (closes.holds.v o.v) (k o.v) o.w (k o.w) last.pairs (sym (last.over (k o.w + k o.w) (omega arith)) ∙ closes.holds.forest.last o.w closes.w_outer)

  -- its own path ends in it
  own_end : IsLastIn k closes.holds.v path o.w o.w []
  own_end = grind (arith, true≢false)

  pub ancestor_flower : HoldsFlower g r f mate t closes.holds (record { members = members; base = o.w })
  ancestor_flower = flower_closed g r f mate t o closes one path (λ v. (listed_outer (closes.holds.v o.v) (k o.v) v, λ w. outer_listed (closes.holds.v o.v) (k o.v) v w.0 w.1 w.2))
      o.w closes.w_outer base_listed [] own_end (o.w ∷ []) way members o.w (λ v. or_false (o.w == v)) (or_left (o.w == o.w) (mem [] o.w) (eq-eqb o.w o.w refl)) last
      (λ v. members_are v ∙ ap (λ b. b || o.w == v) (sym (or_false (mem way v))))
