-- Contracting a tight shore of a covered graph: perfect matchings go down, tight cuts go both
-- ways, covered goes down. A perfect matching has one edge in the cut, so each vertex outside
-- keeps its one edge and the new vertex gets one.
use Rattle.vset_core.proofs.from_counting.Common.{◌≡◌, ℕ, suc, ◌+◌, ◌*◌, ◌≤◌, ◌<◌, ◌≢◌, Bool, true, false, cond, ◌==◌, refl, sym, ap, ap₂, ◌∙◌, arith, ◌&&◌, ◌||◌, not, eqb-true, inl, inr, List, [], ◌∷◌, subst₂, cases_eq, and_parts, and_from, true≢false, false_from_ne_true, both_ways, not-true, nat_tests, bit_true, count_congr, only_one, odd-double, odd_pos, at_le_total, some_term, total_add, total_congr, alike_not_apart, apart_denied, Within, bit, count, is_odd, Set, complement, none}
use Rattle.graph_core.proofs.Decide.{degree_congr}
use Rattle.graph_core.proofs.Parity.{parity}
use Rattle.graph_core.proofs.Walks.{adjacent-edge, adjacent_from, has_ends-cases}
use Rattle.graph_core.specs.Common.{IsCovered, Graph, IsGraph, degree, first_end, in_cut, inside, second_end, size, Allowed, IsPerfect, CutIsTight, IsTight, Merges, Joined, Walk, adjacent}

-- a cut that each perfect matching meets once is tight, where there is one
pub tight_from_cut : (g : Graph) (x m : Set) → IsGraph g → IsPerfect g none m → CutIsTight g x → IsTight g x
tight_from_cut g x m is p h = record {
  odd = once x (h m p);
  odd_complement = once (complement x) (count_congr (size g) _ _ (λ e w. apart_denied (m e) (x (first_end g e)) (x (second_end g e))) ∙ h m p);
  cut = h;
}
  where
    once : (y : Set) → count (size g) (λ e. m e && in_cut g y e) ≡ 1 → is_odd (count g.order y) ≡ true
    once y e = let k = count (size g) (λ e. m e && inside g y e) in
        let s : count g.order y ≡ suc (k + k) = omega (arith, parity g is m y p) in
        ap is_odd s ∙ ap not (odd-double k)

module _ (g : Graph) (is : IsGraph g) (x : Set) (h : Graph) (f : ℕ → ℕ) (c : ℕ) (merge : Merges g x h f c) where
  in_g : (e : ℕ) → Within (size h) e → Within (size g) e
  in_g e w = let k = merge.edges in omega arith

  same_end : (u v : ℕ) → Within g.order u → Within g.order v → x v ≡ false → (f u == f v) ≡ (u == v)
  same_end u v wu wv o = grind arith

  at_c : (u : ℕ) → Within g.order u → (f u == c) ≡ x u
  at_c u wu = grind arith

  -- the edges of m that are not inside x
  abbrev pub drop_inside : Set → Set
  drop_inside m e = m e && not (inside g x e)

  -- sums over the edges of h are sums over the edges of g
  over : (p q : ℕ → Bool) → ((e : ℕ) → Within (size g) e → p e ≡ q e) → count (size h) p ≡ count (size g) q
  over p q k = ap (λ n. count n p) merge.edges ∙ count_congr (size g) p q k

  degree_outside : (m : Set) (v : ℕ) → Within g.order v → x v ≡ false → degree h (drop_inside m) (f v) ≡ degree g m v
  degree_outside m v w o = ap₂ ◌+◌
      (over _ _ (λ e we. ap (λ k. drop_inside m e && k) (ap (λ k. k == f v) (merge.first_ends e we) ∙ same_end (first_end g e) v (is e we).0 w o) ∙ (grind arith)))
      (over _ _ (λ e we. ap (λ k. drop_inside m e && k) (ap (λ k. k == f v) (merge.second_ends e we) ∙ same_end (second_end g e) v (is e we).1 w o) ∙ (grind arith)))

  degree_new : (m : Set) → degree h (drop_inside m) c ≡ count (size g) (λ e. m e && in_cut g x e)
  degree_new m = ap₂ ◌+◌
      (over _ (λ e. (m e && not (inside g x e)) && x (first_end g e)) (λ e we. ap (λ k. drop_inside m e && k) (ap (λ k. k == c) (merge.first_ends e we) ∙ at_c (first_end g e) (is e we).0)))
      (over _ (λ e. (m e && not (inside g x e)) && x (second_end g e)) (λ e we. ap (λ k. drop_inside m e && k) (ap (λ k. k == c) (merge.second_ends e we) ∙ at_c (second_end g e) (is e we).1)))
      ∙ sym (total_add (size g) (λ e. bit ((m e && not (inside g x e)) && x (first_end g e))) (λ e. bit ((m e && not (inside g x e)) && x (second_end g e))))
      ∙ total_congr (size g) _ _ (λ e w. grind arith)

  pub perfect_down : CutIsTight g x → (m : Set) → IsPerfect g none m → IsPerfect h none (drop_inside m)
  perfect_down tight m p = record {
    once = λ w ww o. elim (cases_eq w c) [
      | inl e ↦ ap (degree h (drop_inside m)) e ∙ degree_new m ∙ tight m p
      | inr e ↦ let r = merge.onto w ww e in ap (degree h (drop_inside m)) (sym r.3) ∙ degree_outside m r.0 r.1 r.2 ∙ p.once r.0 r.1 refl
    ];
    away = λ w ww o. absurd (true≢false (sym o));
  }

  -- the cut of y in h is that of the vertices which f puts into y
  cut_down : (m y : Set) → count (size h) (λ e. drop_inside m e && in_cut h y e) ≡ count (size g) (λ e. m e && in_cut g (λ v. y (f v)) e)
  cut_down m y = grind (arith, over)

  -- a tight shore of h is one of g
  pub tight_up : CutIsTight g x → (y : Set) → CutIsTight h y → CutIsTight g (λ v. y (f v))
  tight_up tight y ty m p = sym (cut_down m y) ∙ ty (drop_inside m) (perfect_down tight m p)

  -- h is covered
  pub covered_down : IsTight g x → IsCovered g → IsCovered h
  unfolding Joined
  covered_down tight cov = grind (arith, two_down, joined_down, in_g, false_from_ne_true, and_parts, perfect_down tight.cut, and_from)
    where
      in_x : (v : ℕ) × Within g.order v × (x v ≡ true)
      in_x = let r = some_term g.order (λ v. bit (x v)) (odd_pos (count g.order x) tight.odd) in (r.0, r.1, bit_true (x r.0) r.2)

      out_x : (v : ℕ) × Within g.order v × (complement x v ≡ true)
      out_x = let r = some_term g.order (λ v. bit (complement x v)) (odd_pos (count g.order (complement x)) tight.odd_complement) in (r.0, r.1, bit_true (complement x r.0) r.2)

      two_down : 2 ≤ h.order
      two_down = let r = merge.outside out_x.0 out_x.1 (not-true (x out_x.0) out_x.2) in let n = merge.new in omega arith

      back : (w : ℕ) → Within h.order w → (v : ℕ) × Within g.order v × (f v ≡ w)
      back w ww = elim (cases_eq w c) [
        | inl e ↦ (in_x.0, in_x.1, merge.inside in_x.0 in_x.1 in_x.2 ∙ sym e)
        | inr e ↦ let r = merge.onto w ww e in (r.0, r.1, r.3)
      ]

      step : (u v : ℕ) → adjacent g none u v ≡ true → adjacent h none (f u) (f v) ≡ true
      step u v a = grind (arith, adjacent-edge g none u v a, adjacent_from h none (f u) (f v), has_ends-cases g u v, nat_tests)

      walk : (u v : ℕ) (ws : List ℕ) → Walk (adjacent g none) u ws v → Joined h none (f u) (f v)
      walk u v [] w = ([], ap f w)
      walk u v (y ∷ ws) w = let r = walk y v ws w.1 in (f y ∷ r.0, (step u y w.0, r.1))

      joined_down : (u v : ℕ) → Within h.order u → Within h.order v → Joined h none u v
      joined_down u v wu wv = let a = back u wu in let b = back v wv in let j = cov.connected a.0 b.0 a.1 b.1 in
          subst₂ (λ s t. Joined h none s t) a.2 b.2 (walk a.0 b.0 j.0 j.1)

  -- a tight shore of g that does not cut x is one of h
  pub tight_down : IsTight g x → IsCovered g → (y : Set) → CutIsTight g (λ v. y (f v)) → CutIsTight h y
  tight_down tight cov y ty k p =
      count_congr (size h) _ _ (λ e w. ap (λ b. b && in_cut h y e) (sym (same_in_h e w))) ∙ cut_down m y ∙ ty m (record { once = λ v w o. deg v w; away = λ v w o. absurd (true≢false (sym o)) })
    where
      new_degree : count (size g) (λ e. k e && in_cut g x e) + 2 * count (size g) (λ e. k e && inside g x e) ≡ 1
      new_degree =
          omega (
            arith,
            total_add (size g) (λ e. bit (k e && in_cut g x e)) (λ e. bit (k e && inside g x e) + bit (k e && inside g x e)),
            total_add (size g) (λ e. bit (k e && inside g x e)) (λ e. bit (k e && inside g x e)),
            total_congr (size g) (λ e. bit (k e && x (first_end g e)) + bit (k e && x (second_end g e))) (λ e. bit (k e && in_cut g x e) + (bit (k e && inside g x e) + bit (k e && inside g x e))) (λ e w. grind arith),
            total_add (size g) (λ e. bit (k e && x (first_end g e))) (λ e. bit (k e && x (second_end g e))),
            over (λ e. k e && (first_end h e == c)) (λ e. k e && x (first_end g e)) (λ e we. ap (λ b. k e && b) (ap (λ b. b == c) (merge.first_ends e we) ∙ at_c (first_end g e) (is e we).0)),
            over (λ e. k e && (second_end h e == c)) (λ e. k e && x (second_end g e)) (λ e we. ap (λ b. k e && b) (ap (λ b. b == c) (merge.second_ends e we) ∙ at_c (second_end g e) (is e we).1)),
            p.once c merge.new refl,
          )

      k_out : (e : ℕ) → Within (size g) e → (k e && inside g x e) ≡ false
      k_out e w = false_from_ne_true (k e && inside g x e) (λ t. let b = ap bit t in let z = at_le_total (size g) (λ e. bit (k e && inside g x e)) e w in absurd (omega (arith, new_degree)))

      k_one : count (size g) (λ e. k e && in_cut g x e) ≡ 1
      k_one = omega (arith, new_degree)

      meets : (e : ℕ) × Within (size g) e × (0 < bit (k e && in_cut g x e))
      meets = some_term (size g) (λ e. bit (k e && in_cut g x e)) (omega (arith, k_one))

      meets_parts : (k meets.0 ≡ true) × (in_cut g x meets.0 ≡ true)
      meets_parts = and_parts (k meets.0) (in_cut g x meets.0) (bit_true (k meets.0 && in_cut g x meets.0) meets.2)

      no_loop : first_end g meets.0 ≢ second_end g meets.0
      no_loop l = both_ways (in_cut g x meets.0) (alike_not_apart (x (first_end g meets.0)) (x (second_end g meets.0)) (ap x l)) meets_parts.1

      other : Allowed g meets.0
      other = cov.allowed meets.0 meets.1 no_loop

      m : Set
      m e = cond (inside g x e) (other.0 e) (k e)

      same_in_h : (e : ℕ) → Within (size h) e → drop_inside m e ≡ k e
      same_in_h e w = grind (arith, k_out e (in_g e w), in_g e w)

      -- where an edge crosses, k and the other matching agree
      agree : (e : ℕ) → Within (size g) e → in_cut g x e ≡ true → k e ≡ other.0 e
      agree e w t = go (k e) (other.0 e) refl refl
        where
          go : (a b : Bool) → k e ≡ a → other.0 e ≡ b → a ≡ b
          go true true q r = refl
          go false false q r = refl
          go true false q r = let d = only_one (size g) (λ e. k e && in_cut g x e) k_one e meets.0 w meets.1 (and_from (k e) (in_cut g x e) q t) (bit_true (k meets.0 && in_cut g x meets.0) meets.2) in
              absurd (both_ways (other.0 e) r (ap other.0 d ∙ other.2))
          go false true q r = let d = only_one (size g) (λ e. other.0 e && in_cut g x e) (tight.cut other.0 other.1) e meets.0 w meets.1 (and_from (other.0 e) (in_cut g x e) r t) (and_from (other.0 meets.0) (in_cut g x meets.0) other.2 meets_parts.1) in
              absurd (both_ways (k e) q (ap k d ∙ meets_parts.0))

      deg : (v : ℕ) → Within g.order v → degree g m v ≡ 1
      deg v w = go (x v) refl
        where
          go : (b : Bool) → x v ≡ b → degree g m v ≡ 1
          go false o = sym (degree_outside m v w o) ∙ degree_congr h (drop_inside m) k (f v) same_in_h ∙ p.once (f v) (merge.outside v w o).0 refl
          go true o = ap₂ ◌+◌
              (count_congr (size g) _ _ (λ e we. near_side (first_end g e == v) (x (first_end g e)) (x (second_end g e)) (k e) (other.0 e) (λ t. ap x (eqb-true (first_end g e) v t) ∙ o) (agree e we)))
              (count_congr (size g) _ _ (λ e we. far_side (second_end g e == v) (x (first_end g e)) (x (second_end g e)) (k e) (other.0 e) (λ t. ap x (eqb-true (second_end g e) v t) ∙ o) (agree e we)))
              ∙ other.1.once v w refl
            where
              near_side : (t a b k n : Bool) → (t ≡ true → a ≡ true) → (((a && not b) || (not a && b)) ≡ true → k ≡ n) → (cond (a && b) n k && t) ≡ (n && t)
              near_side t a b k n q r = grind arith

              far_side : (t a b k n : Bool) → (t ≡ true → b ≡ true) → (((a && not b) || (not a && b)) ≡ true → k ≡ n) → (cond (a && b) n k && t) ≡ (n && t)
              far_side t a b k n q r = grind arith
