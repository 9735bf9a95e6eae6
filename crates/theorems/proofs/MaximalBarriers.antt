-- The components that a maximal barrier leaves are factor-critical. An odd one without a vertex has
-- a perfect matching, or the barrier grows by this vertex; and there is no even one, since the
-- barrier with a vertex of it is a barrier: no odd component is lost, and the parity asks for one
-- more.
use Rattle.tree_check.proofs.from_counting.Common.{◌≡◌, ℕ, ◌+◌, ◌≤◌, Bool, true, false, ◌==◌, ◌&&◌, ◌||◌, not, refl, sym, ap, ◌∙◌, arith, eq-eqb, eqb-true, suc, [], ◌∷◌, inl, inr, both_ways, cases_Bool, cases_eq, count_congr, count_singleton, false_from_ne_true, or_left, or_right, total_add, total_congr, total_le, Within, bit, count, is_odd, Set, complement, minus, none, singleton, union}
use Rattle.barrier_kit.proofs.Common.{enlarge, even_order, few_odd_components, leader_of, odd_same, part_same, perfect_congr, perfect_or_not, same_parity}
use Rattle.graph_core.proofs.Common.{adjacent_back, joined_on, joined_outside, joined_self, joined_walk, walk_joined, odd_component_count, Graph, HasPerfect, IsBarrier, IsGraph, IsPerfect, Joined, adjacent, is_least, joined}
use Rattle.theorems.specs.Barriers.{IsMaximalBarrier}
use Rattle.theorems.specs.Matchings.{IsFactorCritical}

module _ (g : Graph) (is : IsGraph g) (m : Set) (p : IsPerfect g none m) (s : Set) (bar : IsBarrier g s) (u : ℕ) (wu : Within g.order u) (su : s u ≡ false) where
  abbrev part : Set
  part = joined g s u

  abbrev big : Set
  big = union s (singleton u)

  part_own : part u ≡ true
  part_own = walk_joined g s is u u wu (joined_self g s u)

  step : (a b : ℕ) → part a ≡ true → adjacent g s a b ≡ true → part b ≡ true
  unfolding Joined
  step a b h k = walk_joined g s is u b wu (joined_on g s u a b (joined_walk g s u a h) (b ∷ [], (k, refl)))

  stays_off : (a b : ℕ) → complement part a ≡ true → adjacent g s a b ≡ true → complement part b ≡ true
  stays_off a b h k = ap not (false_from_ne_true (part b) (λ pb. both_ways (complement part a) (ap not (step b a pb (adjacent_back g s a b k))) h))

  smaller : (a b : ℕ) → adjacent g big a b ≡ true → adjacent g s a b ≡ true
  smaller a b k = grind arith

  -- an even component lets the barrier grow: no odd component is in it
  module _ (even : is_odd (count g.order part) ≡ false) where
    kept : (w : ℕ) → Within g.order w → bit (is_least g s w && is_odd (count g.order (joined g s w))) ≤ bit (is_least g big w && is_odd (count g.order (joined g big w)))
    kept w ww = elim (cases_Bool (part w)) [
      | inl i ↦
          let q : is_odd (count g.order (joined g s w)) ≡ false = ap is_odd (count_congr g.order _ _ (λ v wv. sym (part_same g s is u w wu ww i v))) ∙ even in
          let z = ap bit (fails (is_least g s w) (is_odd (count g.order (joined g s w))) q) in omega arith
      | inr o ↦
          let e = ap bit (odd_same g s big (complement part) is (λ v wv q. agree (s v) (u == v) (λ t. off_part v t q)) stays_off (λ a b h k. stays_off a b h (smaller a b k)) w ww (ap not o)) in omega arith
    ]
      where
        fails : (x y : Bool) → y ≡ false → (x && y) ≡ false
        fails x y h = grind arith

        agree : (x y : Bool) → (y ≡ true → ⊥) → x ≡ (x || y)
        agree x y h = grind arith

        off_part : (v : ℕ) → (u == v) ≡ true → complement part v ≡ true → ⊥
        off_part v t q = both_ways (complement part v) (ap not (sym (ap part (eqb-true u v t)) ∙ part_own)) q

    more : IsBarrier g big
    unfolding odd_component_count
    more =
        let l = total_le g.order (λ w. bit (is_least g s w && is_odd (count g.order (joined g s w)))) (λ w. bit (is_least g big w && is_odd (count g.order (joined g big w)))) kept in
        let c : odd_component_count g s ≡ count g.order s = bar in
        let few = few_odd_components g big m is p in
        let odd = same_parity g big is (even_order g m is p) in
        settle (count g.order s) (odd_component_count g big) (count g.order big) one_more (omega arith) few odd
      where
        one_more : count g.order big ≡ count g.order s + 1
        one_more =
            let a = total_congr g.order (λ w. bit (big w)) (λ w. bit (s w) + bit (singleton u w)) (λ w ww. bits (s w) (u == w) (λ t. sym (ap s (eqb-true u w t)) ∙ su)) in
            let b = total_add g.order (λ w. bit (s w)) (λ w. bit (singleton u w)) in
            let d = count_singleton g.order u wu in omega arith
          where
            bits : (x y : Bool) → (y ≡ true → x ≡ false) → bit (x || y) ≡ bit x + bit y
            bits x y h = grind arith

        settle : (c o n : ℕ) → n ≡ c + 1 → c ≤ o → o ≤ n → is_odd o ≡ is_odd n → o ≡ n
        settle c o n e f h q = elim (cases_eq o c) [
          | inl same ↦ let up : n ≡ suc o = omega arith in absurd (flip (is_odd o) (q ∙ ap is_odd up))
          | inr d ↦ omega arith
        ]
          where
            flip : (x : Bool) → x ≡ not x → ⊥
            flip x h = grind arith

-- the components of a maximal barrier are factor-critical
pub maximal_critical : (g : Graph) (s : Set) (u : ℕ) → IsGraph g → HasPerfect g none → IsMaximalBarrier g s → Within g.order u → s u ≡ false → IsFactorCritical g (joined g s u)
maximal_critical g s u is perfect most wu su v wv uv =
    elim (perfect_or_not g (complement (minus (joined g s u) (singleton v)))) [
      | inl k ↦ k
      | inr never ↦ elim (cases_Bool (is_odd (count g.order (joined g s u)))) [
        | inr even ↦
            let b = more g is perfect.0 perfect.1 s most.barrier u wu su even in
            absurd (both_ways (s u) su (most.maximal (union s (singleton u)) b (λ w ww h. or_left (s w) (u == w) h) u wu (or_right (s u) (u == u) (eq-eqb u u refl))))
        | inl odd ↦
            let l = leader_of g s is u wu su in
            let same = part_same g s is l.0 u l.1 wu l.3 in
            let odd_too = ap is_odd (count_congr g.order (joined g s l.0) (joined g s u) (λ w ww. same w)) ∙ odd in
            let b = enlarge g is perfect.0 perfect.1 s most.barrier l.0 l.1 l.2 odd_too v wv (same v ∙ uv) (λ k kp. never k (perfect_congr g _ _ k (λ w ww. ap (λ b. not (b && not (v == w))) (same w)) kp)) in
            absurd (both_ways (s v) (joined_outside g s is u v su uv) (most.maximal b.0 b.1 (λ w ww h. b.2 w h) v wv b.3))
      ]
    ]
