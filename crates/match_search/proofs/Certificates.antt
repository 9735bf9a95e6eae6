-- An odd labelling of G - R - S with enough classes shows that no matching of G - R is larger.
-- Each class has a vertex that the matching misses or an edge to S; summed over the classes and
-- compared term by term.
use Rattle.graph_core.proofs.from_counting.Common.{◌≡◌, ℕ, suc, zero, ◌+◌, ◌*◌, ◌≤◌, Bool, true, false, ◌==◌, refl, sym, ap, ap₂, ◌∙◌, arith, ◌&&◌, ◌||◌, not, eq-eqb, ne_eqb, eqb-true, inl, inr, nat_lt, mul-add, lt-ltb, cases_eq, both_ways, false_from_ne_true, or_from, count_le_one, odd-double, total_add, total_at, total_congr, total_le, total_none, total_swap, total_tight, total_ones, Within, bit, count, is_odd, total, Set, complement, union}
use Rattle.graph_core.proofs.Common.{ends_le_degree, ends_of, ends_of_is, missed_edges, degrees, ends_in, Graph, IsGraph, degree, first_end, in_cut, inside, second_end, size, IsMatching, missed_count}
use Rattle.match_search.specs.Common.{IsOddLabelling}

-- the degrees in x, by the near and the far ends
pub ends_total : (g : Graph) → IsGraph g → (m x : Set) → total g.order (λ v. bit (x v) * degree g m v) ≡ count (size g) (λ e. m e && x (first_end g e)) + count (size g) (λ e. m e && x (second_end g e))
ends_total g is m x =
    total_congr g.order _ _ (λ v w. mul-add (bit (x v)) (count (size g) (λ e. m e && (first_end g e == v))) (count (size g) (λ e. m e && (second_end g e == v))))
    ∙ total_add g.order (λ v. bit (x v) * count (size g) (λ e. m e && (first_end g e == v))) (λ v. bit (x v) * count (size g) (λ e. m e && (second_end g e == v)))
    ∙ ap₂ ◌+◌ (ends_in g.order (size g) m x (first_end g) (λ e w. (is e w).0)) (ends_in g.order (size g) m x (second_end g) (λ e w. (is e w).1))

-- a number up to p is one of 1 to p or 0
pub class_sum : (p l y : ℕ) → l ≤ p → total p (λ j. bit (l == j) * y) ≡ bit (nat_lt 0 l) * y
class_sum p l y h = elim (cases_eq l 0) [
  | inl e ↦ total_none p _ (λ j w. let a = ap bit (ne_eqb l j (λ q. absurd (omega arith))) in ap (λ k. k * y) a ∙ Rattle.std.proofs.Common.zero-mul y) ∙ sym (ap (λ k. bit (nat_lt 0 k) * y) e ∙ Rattle.std.proofs.Common.zero-mul y)
  | inr e ↦ total_at p (λ j. bit (l == j) * y) l (omega arith) (λ j w n. ap (λ k. k * y) (ap bit (ne_eqb l j (λ q. n (sym q)))) ∙ Rattle.std.proofs.Common.zero-mul y) ∙ ap (λ b. bit b * y) (eq-eqb l l refl ∙ sym (lt-ltb 0 l (omega arith)))
]

one_class : (p l : ℕ) → count p (λ j. l == j) ≤ 1
one_class p l = count_le_one p (λ j. l == j) (λ u v wu wv lt a b. let x = eqb-true l u a in let y = eqb-true l v b in absurd (omega arith))

cross_sum : (p a b : ℕ) (x y : Bool) → (x ≡ true → a ≡ 0) → (y ≡ true → b ≡ 0) → (x ≡ false → y ≡ false → a ≡ b) → count p (λ j. ((a == j) && not (b == j)) || (not (a == j) && (b == j))) ≤ bit x + bit y
cross_sum p a b x y hx hy hxy = grind (arith, total_none p, total_le p, ne_eqb a, one_class p b, ne_eqb b, one_class p a)

module _ (g : Graph) (is : IsGraph g) (r s : Set) (label : ℕ → ℕ) (p : ℕ) (labels : IsOddLabelling g (union r s) label p) (m : Set) (mm : IsMatching g r m) where
  abbrev class : ℕ → Set
  class j v = label v == j

  -- a class has a missed vertex, or an edge of m that leaves it
  class_open : (j : ℕ) → Within p j → 1 ≤ total g.order (λ v. bit (label v == j) * bit (degree g m v == 0)) + count (size g) (λ e. m e && in_cut g (class j) e)
  class_open j w = go (total g.order (λ v. bit (label v == j) * bit (degree g m v == 0)) + count (size g) (λ e. m e && in_cut g (class j) e)) refl
    where
      go : (k : ℕ) → total g.order (λ v. bit (label v == j) * bit (degree g m v == 0)) + count (size g) (λ e. m e && in_cut g (class j) e) ≡ k → 1 ≤ k
      go (suc k) q = omega arith
      go zero q =
          let a = total_congr g.order (λ v. bit (label v == j)) (λ v. bit (label v == j) * bit (degree g m v == 0) + bit (label v == j) * degree g m v) (λ v w. grind arith) in
          let b = total_add g.order (λ v. bit (label v == j) * bit (degree g m v == 0)) (λ v. bit (label v == j) * degree g m v) in
          let d = degrees g is m (class j) in
          let i = count (size g) (λ e. m e && inside g (class j) e) in
          let e : count g.order (class j) ≡ i + i = omega arith in
          absurd (both_ways (is_odd (count g.order (class j))) (ap is_odd e ∙ odd-double i) (labels.odd j w))

  out_of_r : (e v : ℕ) → Within (size g) e → Within g.order v → m e ≡ true → 1 ≤ ends_of g e v → r v ≡ false
  out_of_r e v w wv me le = false_from_ne_true (r v) (λ t. let a = ends_le_degree g m e v w me in let b = mm.away v wv t in absurd (omega arith))

  ends_near : (e : ℕ) → 1 ≤ ends_of g e (first_end g e)
  ends_near e = let a = ends_of_is g e (first_end g e) (second_end g e) (inl (refl, refl)) (first_end g e) in let b = ap bit (eq-eqb (first_end g e) (first_end g e) refl) in omega arith

  ends_far : (e : ℕ) → 1 ≤ ends_of g e (second_end g e)
  ends_far e = let a = ends_of_is g e (first_end g e) (second_end g e) (inl (refl, refl)) (second_end g e) in let b = ap bit (eq-eqb (second_end g e) (second_end g e) refl) in omega arith

  edge_crosses : (e : ℕ) → Within (size g) e → total p (λ j. bit (m e && in_cut g (class j) e)) ≤ bit (m e && s (first_end g e)) + bit (m e && s (second_end g e))
  edge_crosses e w = go (m e) refl
    where
      in_s : (v : ℕ) → s v ≡ true → union r s v ≡ true
      in_s v t = Rattle.std.proofs.lemmas.Bool.or_right (r v) (s v) t

      go : (b : Bool) → m e ≡ b → total p (λ j. bit (b && in_cut g (class j) e)) ≤ bit (b && s (first_end g e)) + bit (b && s (second_end g e))
      go false q = let z = total_none p (λ j. 0) (λ j w. refl) in omega arith
      go true q = cross_sum p (label (first_end g e)) (label (second_end g e)) (s (first_end g e)) (s (second_end g e))
          (λ t. labels.away (first_end g e) (is e w).0 (in_s (first_end g e) t))
          (λ t. labels.away (second_end g e) (is e w).1 (in_s (second_end g e) t))
          (λ a b. labels.along e w (or_from (r (first_end g e)) (s (first_end g e)) (out_of_r e (first_end g e) w (is e w).0 q (ends_near e)) a) (or_from (r (second_end g e)) (s (second_end g e)) (out_of_r e (second_end g e) w (is e w).1 q (ends_far e)) b))

  -- the classes are at most the missed vertices in them and the vertices of s that m meets
  pub classes_few : p ≤ total g.order (λ v. bit (nat_lt 0 (label v)) * bit (degree g m v == 0) + bit (s v) * degree g m v)
  classes_few =
      let a = total_ones p in
      let b = total_le p (λ j. 1) (λ j. total g.order (λ v. bit (label v == j) * bit (degree g m v == 0)) + count (size g) (λ e. m e && in_cut g (class j) e)) class_open in
      let d = total_add p (λ j. total g.order (λ v. bit (label v == j) * bit (degree g m v == 0))) (λ j. count (size g) (λ e. m e && in_cut g (class j) e)) in
      let e : total p (λ j. total g.order (λ v. bit (label v == j) * bit (degree g m v == 0))) ≡ total g.order (λ v. bit (nat_lt 0 (label v)) * bit (degree g m v == 0)) =
      total_swap p g.order (λ j v. bit (label v == j) * bit (degree g m v == 0)) ∙ total_congr g.order _ _ (λ v w. class_sum p (label v) (bit (degree g m v == 0)) (labels.low v w)) in
      let f = total_swap p (size g) (λ j e. bit (m e && in_cut g (class j) e)) in
      let i = total_le (size g) (λ e. total p (λ j. bit (m e && in_cut g (class j) e))) (λ e. bit (m e && s (first_end g e)) + bit (m e && s (second_end g e))) edge_crosses in
      let j = total_add (size g) (λ e. bit (m e && s (first_end g e))) (λ e. bit (m e && s (second_end g e))) in
      let k = ends_total g is m s in
      let l = total_add g.order (λ v. bit (nat_lt 0 (label v)) * bit (degree g m v == 0)) (λ v. bit (s v) * degree g m v) in
      omega arith

  each_term : (v : ℕ) → Within g.order v → bit (nat_lt 0 (label v)) * bit (degree g m v == 0) + bit (s v) * degree g m v ≤ bit (not (r v) && (degree g m v == 0)) + bit (s v)
  each_term v w = grind arith

  bound_total : total g.order (λ v. bit (not (r v) && (degree g m v == 0)) + bit (s v)) ≡ missed_count g r m + count g.order s
  unfolding missed_count
  bound_total = total_add g.order (λ v. bit (not (r v) && (degree g m v == 0))) (λ v. bit (s v))

  module _ (k : ℕ) (sizes : count g.order (complement r) + count g.order s ≡ 2 * k + p) where
    pub certificate_bound : count (size g) m ≤ k
    certificate_bound = grind (arith, classes_few, total_le g.order, each_term, bound_total, missed_edges g r m is mm)

    -- a matching of k edges misses only vertices of the classes, and none of s
    pub certificate_tight : count (size g) m ≡ k → (v : ℕ) → Within g.order v → r v ≡ false → degree g m v ≡ 0 → (nat_lt 0 (label v) ≡ true) × (s v ≡ false)
    certificate_tight full v w rv dv =
        let a = classes_few in
        let d = bound_total in
        let e = missed_edges g r m is mm in
        let t = sym (total_tight g.order _ _ each_term (omega arith) v w) in
        (grind arith)
