-- The law of Tutte and Berge for every graph and every removed set. By induction on the vertices
-- that are left: a vertex that all maximum matchings meet joins the set; else Gallai's lemma
-- counts each component.
use Rattle.graph_core.proofs.from_counting.Common.{◌≡◌, ℕ, suc, zero, ◌+◌, ◌*◌, ◌≤◌, ◌<◌, ◌≢◌, Bool, true, false, ◌==◌, refl, sym, ap, ◌∙◌, arith, ◌&&◌, ◌||◌, not, eq-eqb, ne_eqb, eqb-true, ◌⊎◌, inl, inr, [], ◌∷◌, cases_Bool, and_parts, or_right, both_ways, true≢false, false_from_ne_true, bit-and, count_le_one, count_more, odd-add, odd-double, scan, at_le_total, total_add, total_at, total_congr, total_mul, total_none, total_swap, or_false, fun_ext, Within, bit, count, is_odd, Outside, Set, none, singleton, union}
use Rattle.graph_core.proofs.Common.{joined_outside, joined_walk, one_leader, some_leader, walk_joined, maximum_exists, missed_or_met, ends_le_degree, ends_of, ends_of_is, missed_edges, degrees, adjacent_from, has_ends-back, has_ends-own, joined_back, joined_on, berge_bound, is_least, odd_component_count, Graph, IsGraph, degree, first_end, has_ends, in_cut, inside, second_end, size, IsMatching, IsMaximum, missed_count, Joined, adjacent, joined}
use Rattle.match_core.proofs.Gallai.{no_two}

module _ (g : Graph) (is : IsGraph g) (r m : Set) (mm : IsMaximum g r m)
    (no_pair : (u v : ℕ) → Joined g r u v → u ≢ v → degree g m u ≡ 0 → degree g m v ≡ 0 → ⊥) where
  -- no edge of m leaves a component
  none_leaves : (u : ℕ) → Within g.order u → (e : ℕ) → Within (size g) e → (m e && in_cut g (joined g r u) e) ≡ false
  unfolding Joined
  none_leaves u w e we = go (m e) (joined g r u (first_end g e)) (joined g r u (second_end g e)) refl refl refl
    where
      outside : (z : ℕ) → Within g.order z → m e ≡ true → 1 ≤ ends_of g e z → r z ≡ false
      outside z wz me le = false_from_ne_true (r z) (λ t. let a = ends_le_degree g m e z we me in let b = mm.is.away z wz t in absurd (omega arith))

      ends_near : 1 ≤ ends_of g e (first_end g e)
      ends_near = let a = ends_of_is g e (first_end g e) (second_end g e) (inl (refl, refl)) (first_end g e) in let b = ap bit (eq-eqb (first_end g e) (first_end g e) refl) in omega arith

      ends_far : 1 ≤ ends_of g e (second_end g e)
      ends_far = let a = ends_of_is g e (first_end g e) (second_end g e) (inl (refl, refl)) (second_end g e) in let b = ap bit (eq-eqb (second_end g e) (second_end g e) refl) in omega arith

      step : (a b : ℕ) → m e ≡ true → r a ≡ false → r b ≡ false → has_ends g a b e ≡ true → joined g r u a ≡ true → joined g r u b ≡ true
      step a b me ra rb bt ja = walk_joined g r is u b w (joined_on g r u a b (joined_walk g r u a ja) (edge_walk a b (adjacent_from g r a b e ra rb we bt)))
        where
          edge_walk : (a b : ℕ) → adjacent g r a b ≡ true → Joined g r a b
          edge_walk a b h = (b ∷ [], (h, refl))

      go : (x y z : Bool) → m e ≡ x → joined g r u (first_end g e) ≡ y → joined g r u (second_end g e) ≡ z → (x && ((y && not z) || (not y && z))) ≡ false
      go false y z p q s = refl
      go true true true p q s = refl
      go true false false p q s = refl
      go true true false p q s = absurd (both_ways (joined g r u (second_end g e)) s (step (first_end g e) (second_end g e) p (outside (first_end g e) (is e we).0 p ends_near) (outside (second_end g e) (is e we).1 p ends_far) (has_ends-own g e) q))
      go true false true p q s = absurd (both_ways (joined g r u (first_end g e)) q (step (second_end g e) (first_end g e) p (outside (second_end g e) (is e we).1 p ends_far) (outside (first_end g e) (is e we).0 p ends_near) (has_ends-back g (first_end g e) (second_end g e) e (has_ends-own g e)) s))

  -- an odd component has one missed vertex, an even one none
  missed_in : (u : ℕ) → Within g.order u → count g.order (λ v. joined g r u v && (degree g m v == 0)) ≡ bit (is_odd (count g.order (joined g r u)))
  missed_in u w = parity (count g.order (λ v. joined g r u v && (degree g m v == 0))) (count (size g) (λ e. m e && inside g (joined g r u) e)) (count g.order (joined g r u)) at_most missed_and_pairs
    where
      at_most : count g.order (λ v. joined g r u v && (degree g m v == 0)) ≤ 1
      at_most = grind (arith, count_le_one g.order, and_parts, joined_on g r, joined_back g r u, joined_walk g r u, eqb-true)

      missed_and_pairs : count g.order (joined g r u) ≡ count g.order (λ v. joined g r u v && (degree g m v == 0)) + (count (size g) (λ e. m e && inside g (joined g r u) e) + count (size g) (λ e. m e && inside g (joined g r u) e))
      missed_and_pairs =
          let a = total_congr g.order (λ v. bit (joined g r u v)) (λ v. bit (joined g r u v && (degree g m v == 0)) + bit (joined g r u v) * degree g m v) (λ v wv. grind arith) in
          let b = total_add g.order (λ v. bit (joined g r u v && (degree g m v == 0))) (λ v. bit (joined g r u v) * degree g m v) in
          let c = degrees g is m (joined g r u) in
          let z = total_none (size g) (λ e. bit (m e && in_cut g (joined g r u) e)) (λ e we. ap bit (none_leaves u w e we)) in
          omega arith

      parity : (c k n : ℕ) → c ≤ 1 → n ≡ c + (k + k) → c ≡ bit (is_odd n)
      parity c k n h e = grind (arith, odd-add zero (k + k), odd-double k, odd-add (suc zero) (k + k))

  pub missed_odd : missed_count g r m ≡ odd_component_count g r
  unfolding missed_count odd_component_count
  missed_odd =
      total_congr g.order _ _ (λ v w. leader v w)
      ∙ total_congr g.order _ _ (λ v w. sym (total_mul g.order (bit (not (r v) && (degree g m v == 0))) (λ u. bit (is_least g r u && joined g r u v))))
      ∙ total_swap g.order g.order (λ v u. bit (not (r v) && (degree g m v == 0)) * bit (is_least g r u && joined g r u v))
      ∙ total_congr g.order _ _ (λ u w.
      total_congr g.order _ _ (λ v x. grind (arith, joined_outside, true≢false))
      ∙ total_mul g.order (bit (is_least g r u)) (λ v. bit (joined g r u v && (degree g m v == 0)))
      ∙ ap (λ k. bit (is_least g r u) * k) (missed_in u w)
      ∙ sym (bit-and (is_least g r u) (is_odd (count g.order (joined g r u)))))
    where
      leader : (v : ℕ) → Within g.order v → bit (not (r v) && (degree g m v == 0)) ≡ bit (not (r v) && (degree g m v == 0)) * count g.order (λ u. is_least g r u && joined g r u v)
      leader v w = grind (arith, one_leader, some_leader)

-- the Tutte-Berge law
pub record TutteBerge (g : Graph) (r : Set) : Type 0 where
  pub s : Set
  pub outside : Outside r s
  pub m : Set
  pub is : IsMatching g r m
  pub equal : missed_count g r m + count g.order s ≡ odd_component_count g (union r s)

union_none : (r : Set) → union r none ≡ r
union_none r = fun_ext (λ v. or_false (r v))

-- where each vertex is missed by some maximum matching
all_missed : (g : Graph) (r : Set) → IsGraph g → ((v : ℕ) → Within g.order v → r v ≡ false → (m : Set) × IsMaximum g r m × (degree g m v ≡ 0)) → TutteBerge g r
unfolding Joined
all_missed g r is h =
    let m = maximum_exists g r in
    record {
      s = none;
      outside = λ v e. absurd (true≢false (sym e));
      m = m.0;
      is = m.1.is;
      equal = let z : count g.order none ≡ 0 = total_none g.order _ (λ v w. refl) in
          omega (arith, missed_odd g is r m.0 m.1 (λ u v j d a b. no_two g is r h j.0 m.0 m.1 u v j.1 d a b), ap (odd_component_count g) (union_none r));
    }

-- where each maximum matching meets v
one_met : (g : Graph) (r : Set) → IsGraph g → (v : ℕ) → Within g.order v → r v ≡ false → ((m : Set) → IsMaximum g r m → 0 < degree g m v) → TutteBerge g (union r (singleton v)) → TutteBerge g r
one_met g r is v w o met ih = record { s = union ih.s (singleton v); outside = grind arith; m = m.0; is = m.1.is; equal = equal }
  where
    m : (m : Set) × IsMaximum g r m
    m = maximum_exists g r

    fewer : count (size g) ih.m + 1 ≤ count (size g) m.0
    fewer = grind arith

    one_less : count g.order (λ u. not (r u)) ≡ count g.order (λ u. not (union r (singleton v) u)) + 1
    one_less =
        total_congr g.order _ _ (λ u wu. bits (r u) (v == u) (λ t. ap r (sym (eqb-true v u t)) ∙ o))
        ∙ total_add g.order (λ u. bit (not (r u || (v == u)))) (λ u. bit (v == u))
        ∙ ap (λ k. count g.order (λ u. not (union r (singleton v) u)) + k) (total_at g.order (λ u. bit (v == u)) v w (λ u wu d. ap bit (ne_eqb v u (λ q. d (sym q)))) ∙ ap bit (eq-eqb v v refl))
      where
        bits : (a b : Bool) → (b ≡ true → a ≡ false) → bit (not a) ≡ bit (not (a || b)) + bit b
        bits a b h = grind arith

    one_more : count g.order (union ih.s (singleton v)) ≡ count g.order ih.s + 1
    one_more =
        total_congr g.order _ _ (λ u wu. bits (ih.s u) (v == u) (λ t s. both_ways (r u || (v == u)) (ih.outside u s) (or_right (r u) (v == u) t)))
        ∙ total_add g.order (λ u. bit (ih.s u)) (λ u. bit (v == u))
        ∙ ap (λ k. count g.order ih.s + k) (total_at g.order (λ u. bit (v == u)) v w (λ u wu d. ap bit (ne_eqb v u (λ q. d (sym q)))) ∙ ap bit (eq-eqb v v refl))
      where
        bits : (a b : Bool) → (b ≡ true → a ≡ true → ⊥) → bit (a || b) ≡ bit a + bit b
        bits a b h = grind arith

    same_parts : odd_component_count g (union r (union ih.s (singleton v))) ≡ odd_component_count g (union (union r (singleton v)) ih.s)
    same_parts = grind arith

    equal : missed_count g r m.0 + count g.order (union ih.s (singleton v)) ≡ odd_component_count g (union r (union ih.s (singleton v)))
    equal = omega (arith, berge_bound g r (union ih.s (singleton v)) m.0 is m.1.is, missed_edges g r m.0 is m.1.is, missed_edges g (union r (singleton v)) ih.m is ih.is, fewer, one_less, one_more, same_parts, ih.equal)

tutte_berge_below : (k : ℕ) (g : Graph) (r : Set) → IsGraph g → count g.order (λ v. not (r v)) ≤ k → TutteBerge g r
tutte_berge_below zero g r is h = all_missed g r is (λ v w o. let a = at_le_total g.order (λ v. bit (not (r v))) v w in let b : bit (not (r v)) ≡ 1 = rw o refl in absurd (omega arith))
tutte_berge_below (suc k) g r is h =
    elim (scan g.order (λ v. (r v ≡ false) × ((m : Set) → IsMaximum g r m → 0 < degree g m v)) (λ v. (r v ≡ true) ⊎ ((m : Set) × IsMaximum g r m × (degree g m v ≡ 0)))
    (λ v w. elim (cases_Bool (r v)) [
      | inl t ↦ inr (inl t)
      | inr f ↦ elim (missed_or_met g r v w) [ inl a ↦ inr (inr a) | inr b ↦ inl (f, b) ]
    ])) [
      | inl p ↦ one_met g r is p.0 p.1 p.2.0 p.2.1 (tutte_berge_below k g (union r (singleton p.0)) is (fewer p.0 p.1 p.2.0))
      | inr q ↦ all_missed g r is (λ v w o. elim (q v w) [ inl t ↦ absurd (both_ways (r v) o t) | inr a ↦ a ])
    ]
  where
    fewer : (v : ℕ) → Within g.order v → r v ≡ false → count g.order (λ u. not (union r (singleton v) u)) ≤ k
    fewer v w o =
        let a = count_more g.order (λ u. not (union r (singleton v) u)) (λ u. not (r u)) (λ u. grind arith) v w (ap not (or_right (r v) (v == v) (eq-eqb v v refl))) (ap not o) in omega arith

pub tutte_berge : (g : Graph) (r : Set) → IsGraph g → TutteBerge g r
tutte_berge g r is = tutte_berge_below (count g.order (λ v. not (r v))) g r is (omega arith)
