-- A set C that has a near-perfect matching for each of its vertices is shrunk to one vertex z of
-- it. Which matchings go down and up? Down goes one that misses z, without its edges in C; up
-- goes each, with a near-perfect set of C for the end of its edge at z.
use Rattle.graph_core.proofs.from_counting.Common.{◌≡◌, ℕ, suc, ◌+◌, ◌*◌, ◌≢◌, true, false, refl, sym, ap, ◌∙◌, arith, eq-eqb, inl, inr, List, cases_eq, cases_Bool, both_ways, false_from_ne_true, total_at, total_none, Within, bit, count, Set, minus, union}
use Rattle.graph_core.proofs.Common.{ends_le_degree, ends_of_is, Graph, IsGraph, degree, size, with_ends, IsMatching}
use Rattle.match_search.specs.Common.{IsNearPerfect, IsShrunk, shrunk_removed}
use Rattle.match_search.proofs.NearPerfectSets.{count_split, degree_split, bit_minus, bit_union, near_in, far_in, near_perfect_count, at_t, at_other, at_out}
use Rattle.match_search.proofs.Shrinking.{over, degree_out, degree_in, degree_z, shut_out}

module _ (g : Graph) (is : IsGraph g) (r c : Set) (z : ℕ) (es : List (ℕ × ℕ)) (pulls : IsShrunk g c z es) (cr : (v : ℕ) → c v ≡ true → r v ≡ false) (wz : Within g.order z) (cz : c z ≡ true) where
  abbrev h : Graph
  h = with_ends g es

  abbrev r' : Set
  r' = shrunk_removed r c z

  -- a matching that misses z, with a near-perfect set for z in it, without that set
  module _ (m e : Set) (k : ℕ) (mm : IsMatching g r m) (mz : degree g m z ≡ 0) (e_m : (i : ℕ) → Within (size g) i → e i ≡ true → m i ≡ true) (ne : IsNearPerfect g c z e) (odd : count g.order c ≡ suc (k + k)) where
    left_degree : (v : ℕ) → degree g m v ≡ degree g (minus m e) v + degree g e v
    left_degree v = degree_split g m (minus m e) e v (λ i w. bit_minus (m i) (e i) (e_m i w))

    left_in : (d : ℕ) → Within g.order d → c d ≡ true → degree g (minus m e) d ≡ 0
    left_in d w cd = grind (arith, left_degree d, cases_eq d z, at_other g is c z e ne d w cd)

    left_z : degree h (minus m e) z ≡ 0
    left_z = grind (arith, degree_z g is r c z es pulls cr wz cz (minus m e), total_none g.order, left_in)

    left_matching : IsMatching h r' (minus m e)
    left_matching = record {
      once = λ v w. elim (cases_Bool (c v)) [
        | inr q ↦ let a = degree_out g is r c z es pulls cr wz cz (minus m e) v q in let b = left_degree v in let o = mm.once v w in omega arith
        | inl q ↦ grind (arith, cases_eq v z, left_z, degree_in g is r c z es pulls cr wz cz (minus m e) v q)
      ];
      away = λ v w o. elim (cases_Bool (c v)) [
        | inr q ↦ let a = degree_out g is r c z es pulls cr wz cz (minus m e) v q in let b = left_degree v in let o = mm.away v w (sym (shut_out g is r c z es pulls cr wz cz v q) ∙ o) in omega arith
        | inl q ↦ grind (arith, cases_eq v z, left_z, degree_in g is r c z es pulls cr wz cz (minus m e) v q)
      ];
    }

    pub down : IsMatching h r' (minus m e) × (degree h (minus m e) z ≡ 0) × (count (size h) (minus m e) + k ≡ count (size g) m)
    down = grind (arith, left_matching, left_z, count_split (size g) m (minus m e) e, bit_minus, near_perfect_count g is c z e ne k cz wz odd)

  -- a matching of h with a near-perfect set for the vertex of c that its edge at z meets in g
  module _ (m e : Set) (k t : ℕ) (mm : IsMatching h r' m) (wt : Within g.order t) (ct : c t ≡ true) (tips : (d : ℕ) → Within g.order d → c d ≡ true → d ≢ t → degree g m d ≡ 0) (ne : IsNearPerfect g c t e) (odd : count g.order c ≡ suc (k + k)) where
    t_is : degree g m t ≡ degree h m z
    t_is = sym (degree_z g is r c z es pulls cr wz cz m ∙ total_at g.order (λ d. bit (c d) * degree g m d) t wt (λ d w n. grind arith) ∙ ap (λ s. bit s * degree g m t) ct ∙ Rattle.std.proofs.Common.one-mul (degree g m t))

    apart : (i : ℕ) → Within (size g) i → m i ≡ true → e i ≡ true → ⊥
    apart i w mi ei = grind (arith, near_in g is c t e ne i w ei, far_in g is c t e ne i w ei, ends_le_degree h m i z, ends_of_is h i z z, eq-eqb z z refl)

    more_degree : (v : ℕ) → degree g (union m e) v ≡ degree g m v + degree g e v
    more_degree v = degree_split g (union m e) m e v (λ i w. bit_union (m i) (e i) (apart i w))

    more_out : (v : ℕ) → Within g.order v → c v ≡ false → degree g (union m e) v ≡ degree h m v
    more_out v w cv = let a = more_degree v in let b = at_out g is c t e ne v w cv in let d = degree_out g is r c z es pulls cr wz cz m v cv in omega arith

    more_t : degree g (union m e) t ≡ degree h m z
    more_t = let a = more_degree t in let b = at_t g is c t e ne wt in let d = t_is in omega arith

    more_in : (v : ℕ) → Within g.order v → c v ≡ true → v ≢ t → degree g (union m e) v ≡ 1
    more_in v w cv n = let a = more_degree v in let b = at_other g is c t e ne v w cv n in let d = tips v w cv n in omega arith

    more_matching : IsMatching g r (union m e)
    more_matching = grind (arith, cases_Bool, more_out, cases_eq, more_t, more_in, false_from_ne_true, both_ways, shut_out g is r c z es pulls cr wz cz)

    pub up : IsMatching g r (union m e) × (count (size g) (union m e) ≡ count (size h) m + k) × ((v : ℕ) → Within g.order v → c v ≡ false → degree g (union m e) v ≡ degree h m v) × (degree g (union m e) t ≡ degree h m z)
    up = (
      more_matching,
      let a = count_split (size g) (union m e) m e (λ i w. bit_union (m i) (e i) (apart i w)) in
          let b = near_perfect_count g is c t e ne k ct wt odd in
          let d = over g is r c z es pulls cr wz cz m m (λ i w. refl) in omega arith,
      more_out,
      more_t,
    )
