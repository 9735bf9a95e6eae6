-- Weak duality: a matching of G - R misses at least o(G - R - S) - |S| vertices. Each odd component
-- has a vertex that is missed or is matched into the set.
use Rattle.vset_core.proofs.from_counting.Common.{◌≡◌, ℕ, ◌+◌, ◌*◌, ◌≤◌, Bool, true, false, ◌==◌, refl, sym, ap, ◌∙◌, arith, ◌&&◌, ◌||◌, not, inl, inr, [], ◌∷◌, nat_lt, le_trans, le_of_eq, mul-add, mul-le-mul_left, cases_Bool, and_parts, both_ways, nat_tests, bit-and, some_le_count, odd-double, some_none, some_true, at_le_total, total_add, total_congr, total_le, total_mul, total_none, total_swap, and_fails_second, and_true, Within, bit, count, is_odd, total, Set, union, some}
use Rattle.graph_core.proofs.Components.{joined_outside, joined_walk, one_leader, walk_joined}
use Rattle.graph_core.proofs.Parity.{degrees, ends_in}
use Rattle.graph_core.proofs.Walks.{adjacent_from, has_ends-back, has_ends-own, joined_on}
use Rattle.graph_core.specs.Common.{is_least, odd_component_count, Graph, IsGraph, degree, first_end, has_ends, in_cut, inside, second_end, size, IsMatching, missed_count, Joined, joined}

-- what m misses outside s, or matches into s
loose : Graph → Set → Set → ℕ → Bool
loose g s m v = not (s v) && ((degree g m v == 0) || (some (size g) (λ e. (m e && s (second_end g e)) && (first_end g e == v)) || some (size g) (λ e. (m e && s (first_end g e)) && (second_end g e == v))))

-- there are at most as many as m misses and s has
loose_few : (g : Graph) (s m : Set) → IsGraph g → count g.order (loose g s m) ≤ total g.order (λ v. bit (not (s v) && (degree g m v == 0)) + bit (s v) * degree g m v)
unfolding loose
loose_few g s m is =
    omega (
      arith,
      total_le g.order (λ v. bit (loose g s m v)) _ (λ v w. bits v),
      total_add g.order (λ v. bit (not (s v) && (degree g m v == 0))) (λ v. bit (s v) * degree g m v),
      total_add g.order (λ v. bit (not (s v) && (degree g m v == 0))) (λ v. one (first_end g) (second_end g) v + one (second_end g) (first_end g) v),
      total_add g.order (λ v. one (first_end g) (second_end g) v) (λ v. one (second_end g) (first_end g) v),
      into (first_end g) (second_end g) (λ e w. (is e w).0) (λ e w. (is e w).1),
      into (second_end g) (first_end g) (λ e w. (is e w).1) (λ e w. (is e w).0),
      total_congr g.order _ _ (λ v w. mul-add (bit (s v)) (count (size g) (λ e. m e && (first_end g e == v))) (count (size g) (λ e. m e && (second_end g e == v)))),
      total_add g.order (λ v. bit (s v) * count (size g) (λ e. m e && (first_end g e == v))) (λ v. bit (s v) * count (size g) (λ e. m e && (second_end g e == v))),
    )
  where
    one : (ℕ → ℕ) → (ℕ → ℕ) → ℕ → ℕ
    one f h v = count (size g) (λ e. (m e && s (h e)) && (f e == v))

    bits : (v : ℕ) → bit (loose g s m v) ≤ bit (not (s v) && (degree g m v == 0)) + (one (first_end g) (second_end g) v + one (second_end g) (first_end g) v)
    bits v = grind (arith, some_le_count (size g))

    into : (f h : ℕ → ℕ) → ((e : ℕ) → Within (size g) e → Within g.order (f e)) → ((e : ℕ) → Within (size g) e → Within g.order (h e)) → total g.order (λ v. one f h v) ≡ total g.order (λ v. bit (s v) * count (size g) (λ e. m e && (h e == v)))
    into f h fw hw =
        total_congr g.order _ _ (λ v w. omega arith)
        ∙ ends_in g.order (size g) (λ e. m e && s (h e)) (λ v. true) f fw
        ∙ total_congr (size g) _ _ (λ e w. ap bit (and_true (m e && s (h e))))
        ∙ sym (ends_in g.order (size g) m s h hw)

-- each odd component has one
loose_in : (g : Graph) (s m : Set) → IsGraph g → ((v : ℕ) → Within g.order v → degree g m v ≤ 1) → (u : ℕ) → Within g.order u → s u ≡ false → is_odd (count g.order (joined g s u)) ≡ true → (v : ℕ) × Within g.order v × (joined g s u v ≡ true) × (loose g s m v ≡ true)
unfolding loose Joined
loose_in g s m is mm u w o odd = elim (cases_Bool (some g.order (λ v. joined g s u v && loose g s m v))) [
  | inl t ↦ let r = some_true g.order (λ v. joined g s u v && loose g s m v) t in
      let b = and_parts (joined g s u r.0) (loose g s m r.0) r.2 in (r.0, r.1, b.0, b.1)
  | inr f ↦ absurd (both_ways (is_odd (count g.order k)) (ap is_odd (even f) ∙ odd-double (count (size g) (λ e. m e && inside g k e))) odd)
]
  where
    k : Set
    k = joined g s u

    tight : some g.order (λ v. joined g s u v && loose g s m v) ≡ false → (v : ℕ) → Within g.order v → k v ≡ true → loose g s m v ≡ false
    tight f v wv kv = and_fails_second (k v) (loose g s m v) kv (some_none g.order (λ v. joined g s u v && loose g s m v) f v wv)

    matched_inside : some g.order (λ v. joined g s u v && loose g s m v) ≡ false → (v : ℕ) → Within g.order v → k v ≡ true →
        (degree g m v ≡ 1) × (some (size g) (λ e. (m e && s (second_end g e)) && (first_end g e == v)) ≡ false) × (some (size g) (λ e. (m e && s (first_end g e)) && (second_end g e == v)) ≡ false)
    matched_inside f v wv kv =
        let a = tight f v wv kv in
        let b = joined_outside g s is u v o kv in
        let c = three (s v) (degree g m v == 0) (some (size g) (λ e. (m e && s (second_end g e)) && (first_end g e == v))) (some (size g) (λ e. (m e && s (first_end g e)) && (second_end g e == v))) b a in
        let d = mm v wv in
        (grind (arith, nat_tests, c.0), c.1, c.2)
      where
        three : (p q r t : Bool) → p ≡ false → (not p && (q || (r || t))) ≡ false → (q ≡ false) × (r ≡ false) × (t ≡ false)
        three p q r t a b = grind arith

    even : some g.order (λ v. joined g s u v && loose g s m v) ≡ false → count g.order k ≡ count (size g) (λ e. m e && inside g k e) + count (size g) (λ e. m e && inside g k e)
    even f = let z : count (size g) (λ e. m e && in_cut g k e) ≡ 0 = total_none (size g) _ (λ e we. ap bit (none_crosses e we)) in
        omega (arith, total_congr g.order _ _ (λ v wv. ones v wv) ∙ degrees g is m k)
      where
        ones : (v : ℕ) → Within g.order v → bit (k v) ≡ bit (k v) * degree g m v
        ones v wv = go (k v) refl
          where
            go : (b : Bool) → k v ≡ b → bit b ≡ bit b * degree g m v
            go true p = omega (arith, (matched_inside f v wv p).0)
            go false p = omega arith

        other : (a b : Bool) (v : ℕ) → a ≡ true → ((a && b) && (v == v)) ≡ false → b ≡ false
        other a b v p q = grind (arith, nat_tests)

        -- an edge of m from the component leads into it
        stays : (e a b : ℕ) → Within (size g) e → m e ≡ true → has_ends g a b e ≡ true → k a ≡ true → s b ≡ false → k b ≡ true
        stays e a b we me bt ka sb =
            let sa = joined_outside g s is u a o ka in
            let ad = adjacent_from g s a b e sa sb we bt in
            walk_joined g s is u b w (joined_on g s u a b (joined_walk g s u a ka) (b ∷ [], (ad, refl)))

        none_crosses : (e : ℕ) → Within (size g) e → (m e && in_cut g k e) ≡ false
        none_crosses e we = go (m e) (k (first_end g e)) (k (second_end g e)) refl refl refl
          where
            go : (x y z : Bool) → m e ≡ x → k (first_end g e) ≡ y → k (second_end g e) ≡ z → (x && ((y && not z) || (not y && z))) ≡ false
            go false y z p q r = refl
            go true true true p q r = refl
            go true false false p q r = refl
            go true true false p q r =
                let h = some_none (size g) _ (matched_inside f (first_end g e) (is e we).0 q).1 e we in
                let sb : s (second_end g e) ≡ false = other (m e) (s (second_end g e)) (first_end g e) p h in
                absurd (both_ways (k (second_end g e)) r (stays e (first_end g e) (second_end g e) we p (has_ends-own g e) q sb))
            go true false true p q r =
                let h = some_none (size g) _ (matched_inside f (second_end g e) (is e we).1 r).2 e we in
                let sb : s (first_end g e) ≡ false = other (m e) (s (first_end g e)) (second_end g e) p h in
                absurd (both_ways (k (first_end g e)) q (stays e (second_end g e) (first_end g e) we p (has_ends-back g (first_end g e) (second_end g e) e (has_ends-own g e)) r sb))

berge_raw : (g : Graph) (s m : Set) → IsGraph g → ((v : ℕ) → Within g.order v → degree g m v ≤ 1) → odd_component_count g s ≤ total g.order (λ v. bit (not (s v) && (degree g m v == 0)) + bit (s v) * degree g m v)
unfolding odd_component_count
berge_raw g s m is mm =
    le_trans (total_le g.order _ (λ u. bit (is_least g s u) * total g.order (λ v. bit (joined g s u v) * bit (loose g s m v))) (λ u w. each u w))
    (le_trans (le_of_eq swapped) (le_trans (total_le g.order _ _ (λ v w. omega (arith, mul-le-mul_left (bit (loose g s m v)) (one_leader g s is v w)))) (loose_few g s m is)))
  where
    each : (u : ℕ) → Within g.order u → bit (is_least g s u && is_odd (count g.order (joined g s u))) ≤ bit (is_least g s u) * total g.order (λ v. bit (joined g s u v) * bit (loose g s m v))
    each u w = go (is_least g s u) (is_odd (count g.order (joined g s u))) refl refl
      where
        go : (a b : Bool) → is_least g s u ≡ a → is_odd (count g.order (joined g s u)) ≡ b → bit (a && b) ≤ bit a * total g.order (λ v. bit (joined g s u v) * bit (loose g s m v))
        go false b p q = omega arith
        go true false p q = omega arith
        go true true p q =
            let lead = and_parts (not (s u)) (not (some g.order (λ v. joined g s u v && nat_lt v u))) p in
            let r = loose_in g s m is mm u w (grind (arith, lead.0)) q in
            let t : bit (joined g s u r.0) * bit (loose g s m r.0) ≡ 1 = rw (r.2, r.3) refl in
            omega (arith, at_le_total g.order (λ v. bit (joined g s u v) * bit (loose g s m v)) r.0 r.1)

    swapped : total g.order (λ u. bit (is_least g s u) * total g.order (λ v. bit (joined g s u v) * bit (loose g s m v))) ≡ total g.order (λ v. bit (loose g s m v) * count g.order (λ u. is_least g s u && joined g s u v))
    swapped =
        total_congr g.order _ _ (λ u w. sym (total_mul g.order (bit (is_least g s u)) (λ v. bit (joined g s u v) * bit (loose g s m v))))
        ∙ total_swap g.order g.order (λ u v. bit (is_least g s u) * (bit (joined g s u v) * bit (loose g s m v)))
        ∙ total_congr g.order _ _ (λ v w. total_congr g.order _ _ (λ u x. omega (arith, ap (λ k. bit (loose g s m v) * k) (bit-and (is_least g s u) (joined g s u v)))) ∙ total_mul g.order (bit (loose g s m v)) (λ u. bit (is_least g s u && joined g s u v)))

-- a matching of g - r misses at least o(s) - |s| vertices
pub berge_bound : (g : Graph) (r s m : Set) → IsGraph g → IsMatching g r m → odd_component_count g (union r s) ≤ missed_count g r m + count g.order s
unfolding missed_count
berge_bound g r s m is mm =
    le_trans (berge_raw g (union r s) m is mm.once)
    (le_trans (total_le g.order _ (λ v. bit (not (r v) && (degree g m v == 0)) + bit (s v)) (λ v w. grind arith)) (le_of_eq (total_add g.order (λ v. bit (not (r v) && (degree g m v == 0))) (λ v. bit (s v)))))
