-- A set of edges is near-perfect in C for a vertex t: it meets each vertex of C but t once. How
-- many ends has it at each vertex, and how many edges? And how do the degrees add up where the
-- edges of a set are those of two others?
use Rattle.graph_core.proofs.from_counting.Common.{◌≡◌, ℕ, suc, ◌+◌, ◌*◌, ◌≤◌, ◌≢◌, Bool, true, false, ◌==◌, refl, sym, ap, ap₂, ◌∙◌, arith, ◌&&◌, ◌||◌, not, eq-eqb, inl, cases_Bool, count_put, total_add, total_congr, Within, bit, count, Set}
use Rattle.graph_core.proofs.Common.{degree_sum, ends_le_degree, ends_of, ends_of_is, sum_degrees, Graph, IsGraph, degree, first_end, second_end, size}
use Rattle.match_search.specs.Common.{IsNearPerfect}

-- the edges of k are those of m and those of e
pub count_split : (n : ℕ) (k m e : Set) → ((i : ℕ) → Within n i → bit (k i) ≡ bit (m i) + bit (e i)) → count n k ≡ count n m + count n e
count_split n k m e h = total_congr n _ _ h ∙ total_add n (λ i. bit (m i)) (λ i. bit (e i))

pub degree_split : (g : Graph) (k m e : Set) (v : ℕ) → ((i : ℕ) → Within (size g) i → bit (k i) ≡ bit (m i) + bit (e i)) → degree g k v ≡ degree g m v + degree g e v
degree_split g k m e v h =
    degree_sum g k v
    ∙ total_congr (size g) _ _ (λ i w. each (bit (k i)) (bit (m i)) (bit (e i)) (ends_of g i v) (h i w))
    ∙ total_add (size g) (λ i. bit (m i) * ends_of g i v) (λ i. bit (e i) * ends_of g i v)
    ∙ ap₂ ◌+◌ (sym (degree_sum g m v)) (sym (degree_sum g e v))
  where
    each : (a b c d : ℕ) → a ≡ b + c → a * d ≡ b * d + c * d
    each a b c d q = ap (λ k. k * d) q ∙ Rattle.std.proofs.Common.add-mul b c d

pub bit_minus : (m e : Bool) → (e ≡ true → m ≡ true) → bit m ≡ bit (m && not e) + bit e
bit_minus m e h = grind arith

pub bit_union : (m e : Bool) → (m ≡ true → e ≡ true → ⊥) → bit (m || e) ≡ bit m + bit e
bit_union m e h = grind arith

pub ends_near : (g : Graph) (e : ℕ) → 1 ≤ ends_of g e (first_end g e)
ends_near g e = let a = ends_of_is g e (first_end g e) (second_end g e) (inl (refl, refl)) (first_end g e) in let b = ap bit (eq-eqb (first_end g e) (first_end g e) refl) in omega arith

pub ends_far : (g : Graph) (e : ℕ) → 1 ≤ ends_of g e (second_end g e)
ends_far g e = let a = ends_of_is g e (first_end g e) (second_end g e) (inl (refl, refl)) (second_end g e) in let b = ap bit (eq-eqb (second_end g e) (second_end g e) refl) in omega arith

module _ (g : Graph) (is : IsGraph g) (c : Set) (t : ℕ) (e : Set) (near_t : IsNearPerfect g c t e) where
  pub near_in : (i : ℕ) → Within (size g) i → e i ≡ true → c (first_end g i) ≡ true
  near_in i w ei = grind (arith, cases_Bool (c (first_end g i)), ends_le_degree g e i (first_end g i) w ei, ends_near g i)

  pub far_in : (i : ℕ) → Within (size g) i → e i ≡ true → c (second_end g i) ≡ true
  far_in i w ei = grind (arith, cases_Bool (c (second_end g i)), ends_le_degree g e i (second_end g i) w ei, ends_far g i)

  pub near_perfect_count : (k : ℕ) → c t ≡ true → Within g.order t → count g.order c ≡ suc (k + k) → count (size g) e ≡ k
  near_perfect_count k ct wt odd = grind (arith, sum_degrees g e is, total_congr g.order, count_put g.order c t false wt)

  pub at_t : Within g.order t → degree g e t ≡ 0
  at_t w = grind arith

  pub at_other : (v : ℕ) → Within g.order v → c v ≡ true → v ≢ t → degree g e v ≡ 1
  at_other v w cv d = grind arith

  pub at_out : (v : ℕ) → Within g.order v → c v ≡ false → degree g e v ≡ 0
  at_out v w cv = near_t.degrees v w ∙ ap (λ s. bit (s && not (v == t))) cv
