-- A set C is shrunk to one vertex z of it. What are the degrees in the shrunk graph? Outside C
-- they stay, those in C sum to the degree of z, and a vertex of C but z has none.
use Rattle.graph_core.proofs.from_counting.Common.{◌≡◌, ℕ, ◌+◌, ◌*◌, ◌≤◌, ◌<◌, ◌≢◌, Bool, true, false, ◌==◌, sym, ap, ap₂, ◌∙◌, arith, ◌&&◌, inl, inr, List, mul-add, get_or-map, length-map, cases_eq, cases_order, count_congr, at_le_total, some_term, total_add, total_congr, total_none, two_le_total, and_false, Within, bit, count, total, Set}
use Rattle.graph_core.proofs.Common.{ends_in, Graph, IsGraph, degree, first_end, second_end, size, with_ends}
use Rattle.match_search.specs.Common.{IsShrunk, shrunk_ends, shrunk_vertex, shrunk_removed}

pub shrunk_ends_shrunk : (g : Graph) (c : Set) (z : ℕ) → IsShrunk g c z (shrunk_ends g c z)
shrunk_ends_shrunk g c z = grind (arith, length-map, get_or-map)

module _ (g : Graph) (is : IsGraph g) (r c : Set) (z : ℕ) (es : List (ℕ × ℕ)) (pulls : IsShrunk g c z es) (cr : (v : ℕ) → c v ≡ true → r v ≡ false) (wz : Within g.order z) (cz : c z ≡ true) where
  abbrev pub h : Graph
  h = with_ends g es

  abbrev pub r' : Set
  r' = shrunk_removed r c z

  pub in_g : (e : ℕ) → Within (size h) e → Within (size g) e
  in_g e w = let k = pulls.same in omega arith

  pub shrunk_graph : IsGraph h
  shrunk_graph e w = grind arith

  pub over : (p q : ℕ → Bool) → ((e : ℕ) → Within (size g) e → p e ≡ q e) → count (size h) p ≡ count (size g) q
  over p q k = ap (λ n. count n p) pulls.same ∙ count_congr (size g) p q k

  pull_out : (a v : ℕ) → c v ≡ false → (shrunk_vertex c z a == v) ≡ (a == v)
  pull_out a v cv = grind arith

  pull_in : (a v : ℕ) → c v ≡ true → v ≢ z → (shrunk_vertex c z a == v) ≡ false
  pull_in a v cv d = grind arith

  pull_z : (a : ℕ) → (shrunk_vertex c z a == z) ≡ c a
  pull_z a = grind arith

  pub degree_out : (m : Set) (v : ℕ) → c v ≡ false → degree h m v ≡ degree g m v
  degree_out m v cv = grind (arith, over, pull_out, first_end, second_end)

  pub degree_in : (m : Set) (v : ℕ) → c v ≡ true → v ≢ z → degree h m v ≡ 0
  degree_in m v cv d = grind (arith, pull_in, and_false, total_none (size g))

  pub degree_z : (m : Set) → degree h m z ≡ total g.order (λ d. bit (c d) * degree g m d)
  degree_z m = ap₂ ◌+◌
      (over _ (λ e. m e && c (first_end g e)) (λ e w. ap (λ k. m e && k) (ap (λ k. k == z) (pulls.first_ends e w) ∙ pull_z (first_end g e))))
      (over _ (λ e. m e && c (second_end g e)) (λ e w. ap (λ k. m e && k) (ap (λ k. k == z) (pulls.second_ends e w) ∙ pull_z (second_end g e))))
      ∙ ap₂ ◌+◌ (sym (ends_in g.order (size g) m c (first_end g) (λ e w. (is e w).0))) (sym (ends_in g.order (size g) m c (second_end g) (λ e w. (is e w).1)))
      ∙ sym (total_add g.order (λ v. bit (c v) * count (size g) (λ e. m e && (first_end g e == v))) (λ v. bit (c v) * count (size g) (λ e. m e && (second_end g e == v))))
      ∙ total_congr g.order _ _ (λ v w. sym (mul-add (bit (c v)) (count (size g) (λ e. m e && (first_end g e == v))) (count (size g) (λ e. m e && (second_end g e == v)))))

  -- what z has in h, each vertex of c has at most
  pub in_le_z : (m : Set) (d : ℕ) → Within g.order d → c d ≡ true → degree g m d ≤ degree h m z
  in_le_z m d w cd = let a = at_le_total g.order (λ d. bit (c d) * degree g m d) d w in let b = ap (λ s. bit s * degree g m d) cd in let e = degree_z m in omega arith

  -- where to put the edge at z, if there is one
  pub tip : (m : Set) → degree h m z ≤ 1 → (t : ℕ) × Within g.order t × (c t ≡ true) × ((d : ℕ) → Within g.order d → c d ≡ true → d ≢ t → degree g m d ≡ 0)
  tip m one = elim (cases_eq (degree h m z) 0) [
    | inl q ↦ (z, wz, cz, λ d w cd n. let a = in_le_z m d w cd in omega arith)
    | inr q ↦
        let s = some_term g.order (λ d. bit (c d) * degree g m d) (let a = degree_z m in omega arith) in
        let cs = in_c (c s.0) (degree g m s.0) s.2 in (
          s.0,
          s.1,
          cs,
          λ d w cd n.
              let e = degree_z m in
              let x = ap (λ b. bit b * degree g m d) cd in
              let y : 1 ≤ bit (c s.0) * degree g m s.0 = s.2 in
              elim (cases_order d s.0) [
                | inl l ↦ absurd (n l)
                | inr l ↦ elim l [
                  | inl l ↦ let a = two_le_total g.order (λ d. bit (c d) * degree g m d) d s.0 w s.1 l in omega arith
                  | inr l ↦ let a = two_le_total g.order (λ d. bit (c d) * degree g m d) s.0 d s.1 w l in omega arith
                ]
              ],
        )
  ]
    where
      in_c : (b : Bool) (k : ℕ) → 0 < bit b * k → b ≡ true
      in_c b k q = grind arith

  pub shut_z : r' z ≡ false
  shut_z = grind arith

  pub shut_out : (v : ℕ) → c v ≡ false → r' v ≡ r v
  shut_out v cv = grind arith
