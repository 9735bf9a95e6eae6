-- An odd cycle has a near-perfect matching for each of its vertices: every other edge on the way
-- round. The two edges at a vertex have neighbouring places, of which exactly one is chosen
-- unless the way starts there.
use Rattle.graph_core.proofs.from_counting.Common.{◌≡◌, ℕ, suc, zero, ◌+◌, ◌*◌, ◌≢◌, Bool, true, false, cond, ◌==◌, refl, sym, ap, ◌∙◌, arith, ◌&&◌, not, eq-eqb, ne_eqb, eqb-true, ◌⊎◌, mul-add, cases_eq, some_none, some_true, true_some, total_add, total_at, total_congr, total_none, Within, bit, count, is_odd, total, Set}
use Rattle.graph_core.proofs.Common.{image, total_image, degree_sum, ends_of, ends_of_is, Graph, degree, size, HasEnds}
use Rattle.match_search.specs.Common.{IsOddCycle, listed, next, every_other, picked, IsNearPerfect}

-- a sum over an image without collisions is a sum over what it comes from
pub total_picked : (k l : ℕ) (m : Set) (pick : ℕ → ℕ) (f : ℕ → ℕ) → ((e : ℕ) → Within k e → m e ≡ true → Within l (pick e)) → ((d e : ℕ) → Within k d → Within k e → m d ≡ true → m e ≡ true → pick d ≡ pick e → d ≡ e) →
    total l (λ i. bit (picked k m pick i) * f i) ≡ total k (λ e. bit (m e) * f (pick e))
unfolding image
total_picked k l m pick f inside apart = total_image k l m pick f inside apart

-- of a place that is not the first, and the one before it
pattern_two : (t b : ℕ) → bit (every_other t (suc b)) + bit (every_other t b) ≡ bit (not (suc b == t))
pattern_two t b = grind arith

-- of the first place, and the last, of an odd number
pattern_round : (n t : ℕ) → is_odd n ≡ true → Within n t → bit (every_other t 1) + bit (every_other t n) ≡ bit (not (1 == t))
pattern_round n t o w = grind arith

-- two pairs of ends of one edge
pub same_ends : (g : Graph) (e x y u v : ℕ) → HasEnds g e x y → HasEnds g e u v → ((x ≡ u) × (y ≡ v)) ⊎ ((x ≡ v) × (y ≡ u))
same_ends g e x y u v p q = grind arith

pub next_in : (n i : ℕ) → Within n i → Within n (next n i)
next_in n i w = grind arith

next_is : (n i : ℕ) → ((i ≡ n) × (next n i ≡ 1)) ⊎ ((i ≢ n) × (next n i ≡ suc i))
next_is n i = grind arith

module _ (g : Graph) (r : Set) (n : ℕ) (c e : ℕ → ℕ) (is : IsOddCycle g r n c e) where
  pub edges_apart : (i j : ℕ) → Within n i → Within n j → e i ≡ e j → i ≡ j
  edges_apart i j wi wj q = grind arith

  pub cycle_size : count g.order (listed n c) ≡ n
  cycle_size =
      total_congr g.order _ _ (λ v w. omega arith)
      ∙ total_picked n g.order (λ i. true) c (λ v. 1) (λ i w t. is.within i w) (λ i j wi wj p q. is.apart i j wi wj)
      ∙ ones n
    where
      ones : (k : ℕ) → total k (λ i. bit true * 1) ≡ k
      ones zero = refl
      ones (suc k) = omega (arith, ones k)

  pub cycle_outside : (v : ℕ) → listed n c v ≡ true → r v ≡ false
  cycle_outside v t = let s = some_true n (λ i. c i == v) t in ap r (sym (eqb-true (c s.0) v s.2)) ∙ is.outside s.0 s.1

  pub cycle_holds : (i : ℕ) → Within n i → listed n c (c i) ≡ true
  cycle_holds i w = true_some n (λ j. c j == c i) i w (eq-eqb (c i) (c i) refl)

  pattern_degree : (t v : ℕ) → degree g (picked n (every_other t) e) v ≡ total n (λ i. bit (every_other t i) * bit (c i == v)) + total n (λ i. bit (every_other t i) * bit (c (next n i) == v))
  pattern_degree t v =
      degree_sum g (picked n (every_other t) e) v
      ∙ total_picked n (size g) (every_other t) e (λ d. ends_of g d v) (λ i w p. is.real i w) (λ i j wi wj p q. edges_apart i j wi wj)
      ∙ total_congr n _ _ (λ i w. ap (λ k. bit (every_other t i) * k) (ends_of_is g (e i) (c i) (c (next n i)) (is.ends i w) v) ∙ mul-add (bit (every_other t i)) (bit (c i == v)) (bit (c (next n i) == v)))
      ∙ total_add n (λ i. bit (every_other t i) * bit (c i == v)) (λ i. bit (every_other t i) * bit (c (next n i) == v))

  -- every other edge, from t round to t, meets each vertex of the cycle once, but that at t
  pub every_other-near_perfect : (t : ℕ) → Within n t → IsNearPerfect g (listed n c) (c t) (picked n (every_other t) e)
  every_other-near_perfect t wt = record { degrees = λ v w. pattern_degree t v ∙ at v (listed n c v) refl }
    where
      mul_zero : (x y : ℕ) → y ≡ 0 → x * y ≡ 0
      mul_zero x y q = ap (λ k. x * k) q ∙ omega arith

      mul_one : (x y : ℕ) → y ≡ 1 → x * y ≡ x
      mul_one x y q = ap (λ k. x * k) q ∙ omega arith

      before : (a : ℕ) → Within n a → (b : ℕ) × Within n b × (next n b ≡ a) × (bit (every_other t a) + bit (every_other t b) ≡ bit (not (a == t)))
      before zero w = absurd (omega arith)
      before (suc zero) w = (n, omega arith, ap (λ b. cond b 1 (suc n)) (eq-eqb n n refl), pattern_round n t is.odd wt)
      before (suc (suc b)) w = (suc b, omega arith, ap (λ x. cond x 1 (suc (suc b))) (ne_eqb (suc b) n (λ q. absurd (omega arith))), pattern_two t (suc b))

      next_apart : (i j : ℕ) → Within n i → Within n j → next n i ≡ next n j → i ≡ j
      next_apart i j wi wj q = grind (arith, next_is n i, next_is n j)

      at : (v : ℕ) (b : Bool) → listed n c v ≡ b → total n (λ i. bit (every_other t i) * bit (c i == v)) + total n (λ i. bit (every_other t i) * bit (c (next n i) == v)) ≡ bit (listed n c v && not (v == c t))
      at v false q =
          let a = total_none n (λ i. bit (every_other t i) * bit (c i == v)) (λ i w. mul_zero (bit (every_other t i)) (bit (c i == v)) (ap bit (some_none n (λ i. c i == v) q i w))) in
          let b = total_none n (λ i. bit (every_other t i) * bit (c (next n i) == v)) (λ i w. mul_zero (bit (every_other t i)) (bit (c (next n i) == v)) (ap bit (some_none n (λ i. c i == v) q (next n i) (next_in n i w)))) in
          let z = ap (λ s. bit (s && not (v == c t))) q in omega arith
      at v true q =
          let s = some_true n (λ i. c i == v) q in
          let cv = eqb-true (c s.0) v s.2 in
          let p = before s.0 s.1 in
          let a = total_at n (λ i. bit (every_other t i) * bit (c i == v)) s.0 s.1 (λ i w d. mul_zero (bit (every_other t i)) (bit (c i == v)) (ap bit (ne_eqb (c i) v (λ e. d (is.apart i s.0 w s.1 (e ∙ sym cv)))))) in
          let a' = mul_one (bit (every_other t s.0)) (bit (c s.0 == v)) (ap bit s.2) in
          let b = total_at n (λ i. bit (every_other t i) * bit (c (next n i) == v)) p.0 p.1 (λ i w d. mul_zero (bit (every_other t i)) (bit (c (next n i) == v)) (ap bit (ne_eqb (c (next n i)) v (λ e. d (next_apart i p.0 w p.1 (is.apart (next n i) s.0 (next_in n i w) s.1 (e ∙ sym cv) ∙ sym p.2)))))) in
          let b' = mul_one (bit (every_other t p.0)) (bit (c (next n p.0) == v)) (ap (λ k. bit (c k == v)) p.2 ∙ ap bit s.2) in
          let z = ap (λ x. bit (x && not (v == c t))) q in
          let y : bit (s.0 == t) ≡ bit (v == c t) = same s.0 v s.1 cv in
          let u = p.3 in
          let x = negs (s.0 == t) (v == c t) y in
          omega arith
        where
          same : (i v : ℕ) → Within n i → c i ≡ v → bit (i == t) ≡ bit (v == c t)
          same i v w cv = grind (arith, cases_eq i t, eq-eqb i t, eq-eqb v (c t), ne_eqb i t, ne_eqb v (c t))

          negs : (a b : Bool) → bit a ≡ bit b → bit (not a) ≡ bit (not b)
          negs a b q = grind arith
