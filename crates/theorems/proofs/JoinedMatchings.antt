-- Two sets of edges that meet each vertex on one side of a cut once and have one edge in the cut,
-- the same, are together a perfect matching with this cut edge.
use Rattle.tree_check.proofs.from_counting.Common.{◌+◌, ◌≡◌, ℕ, Bool, true, false, ◌==◌, ◌&&◌, ◌||◌, not, refl, sym, ap, ap₂, ◌∙◌, arith, eqb-true, and_from, both_ways, count_congr, only_one, true≢false, Within, Set, complement, none}
use Rattle.graph_core.proofs.Common.{Graph, IsPerfect, degree, edges_in_cut, first_end, in_cut, inside, second_end, size}

-- matchings of the two sides with the same cut edge, together
module _ (g : Graph) (x k j : Set) (b : ℕ) (wb : Within (size g) b) (cb : in_cut g x b ≡ true) (kb : k b ≡ true) (jb : j b ≡ true)
    (k_once : (v : ℕ) → Within g.order v → x v ≡ false → degree g k v ≡ 1) (k_cut : edges_in_cut g k x ≡ 1) (k_in : (e : ℕ) → Within (size g) e → (k e && inside g x e) ≡ false)
    (j_once : (v : ℕ) → Within g.order v → x v ≡ true → degree g j v ≡ 1) (j_cut : edges_in_cut g j x ≡ 1) (j_in : (e : ℕ) → Within (size g) e → (j e && inside g (complement x) e) ≡ false) where
  -- in the cut both have b alone
  k_alone : (e : ℕ) → Within (size g) e → k e ≡ true → in_cut g x e ≡ true → j e ≡ true
  k_alone e w t s = ap j (only_one (size g) (λ e. k e && in_cut g x e) k_cut e b w wb (and_from (k e) (in_cut g x e) t s) (and_from (k b) (in_cut g x b) kb cb)) ∙ jb

  j_alone : (e : ℕ) → Within (size g) e → j e ≡ true → in_cut g x e ≡ true → k e ≡ true
  j_alone e w t s = ap k (only_one (size g) (λ e. j e && in_cut g x e) j_cut e b w wb (and_from (j e) (in_cut g x e) t s) (and_from (j b) (in_cut g x b) jb cb)) ∙ kb

  abbrev pub both : Set
  both e = k e || j e

  -- off x all are of k, in x all are of j
  off : (e : ℕ) → Within (size g) e → (x (first_end g e) && x (second_end g e)) ≡ false → both e ≡ k e
  off e w h = grind (arith, true≢false, first_end, second_end, both_ways, j_alone, inside, complement, and_from)

  on : (e : ℕ) → Within (size g) e → (not (x (first_end g e)) && not (x (second_end g e))) ≡ false → both e ≡ j e
  on e w h = grind (arith, true≢false, first_end, second_end, both_ways, k_alone, inside, and_from)

  pub both_perfect : IsPerfect g none both
  both_perfect = record { once = λ v w o. go v w (x v) refl; away = λ v w o. absurd (true≢false (sym o)) }
    where
      at : (m : Set) (v : ℕ) → ((e : ℕ) → Within (size g) e → (first_end g e == v) ≡ true → both e ≡ m e) → ((e : ℕ) → Within (size g) e → (second_end g e == v) ≡ true → both e ≡ m e) → degree g both v ≡ degree g m v
      at m v a c = ap₂ ◌+◌ (count_congr (size g) _ _ (λ e w. same (both e) (m e) (first_end g e == v) (a e w))) (count_congr (size g) _ _ (λ e w. same (both e) (m e) (second_end g e == v) (c e w)))
        where
          same : (p q t : Bool) → (t ≡ true → p ≡ q) → (p && t) ≡ (q && t)
          same p q t h = grind arith

      left : (p q : Bool) → p ≡ false → (p && q) ≡ false
      left p q h = grind arith

      right : (p q : Bool) → q ≡ false → (p && q) ≡ false
      right p q h = grind arith

      go : (v : ℕ) → Within g.order v → (s : Bool) → x v ≡ s → degree g both v ≡ 1
      go v w false o = grind (arith, at, off, left, first_end, second_end, eqb-true, right)
      go v w true o = grind (arith, at, on, left, first_end, second_end, eqb-true, right)

  pub both_cut : edges_in_cut g both x ≡ 1
  both_cut = grind (arith, count_congr, size, first_end, second_end, off)
