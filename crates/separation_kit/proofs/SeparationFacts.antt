-- The cuts at cut pairs: each is tight, there is one if a bicritical graph has a cut pair, and none
-- if it has no cut pair. What is true of each component at each cut pair is true of each item of
-- the list.
use Rattle.graph_core.proofs.from_counting.Common.{◌≡◌, ◌≢◌, ◌↔◌, ℕ, ◌≤◌, ◌<◌, Bool, true, false, ◌==◌, ◌&&◌, ◌||◌, not, refl, sym, ap, arith, inl, inr, List, [], map, filter, flat_map, nat_le, nat_lt, lt-ltb, leb-true, subst, ap₂, get_or, None, All, find, if◌then◌else◌, both_ways, cases_lt, false_from_ne_true, le-leb, not-false, All-map, All-nil, count_member, mem-rising_list, Within, count, is_odd, mem, pair_with, rising_list, rising_pairs, Set, everything, pair_set, singleton, union}
use Rattle.graph_core.proofs.Common.{has_perfect_found, has_perfect_says, nontrivial-same, tight-same, component_count, components, is_least, IsCovered, Graph, IsGraph, HasPerfect, has_perfect, IsBicritical, IsCutPair, cut_pair, is_bicritical, equivalent_pair, IsTight, canonical_shore, is_nontrivial, joined, IsCanonicalCut, cuts_of}
use Rattle.barrier_kit.proofs.Common.{all_flat, all_passing, all_rising, all_unfound, filter_all, flat_all, map_all, pairs_rise, rising_all, unfound_all, leads_out, cuts-canonical, cuts-none, cuts-some, has_perfect-true, listed_tight, listed_wide}
use Rattle.separation_kit.specs.Common.{is_cut_pair, separation_cuts, separation_shores, shores_at_pair}
use Rattle.separation_kit.proofs.PairShores.{bicritical-true}
use Rattle.separation_kit.proofs.Separations.{separation_even, separation_nontrivial, separation_tight}

-- the pair in the other order
turned : (a b v : ℕ) → pair_set a b v ≡ pair_set b a v
turned a b v = grind arith

-- what is true of each pair a < b of the list
pub pair_holds : (n : ℕ) (P : ℕ × ℕ → Type 0) → All P (rising_pairs n) → (a b : ℕ) → Within n a → Within n b → a < b → P (a, b)
pair_holds n P all a b wa wb l =
    rising_all n (nat_lt a) (λ b. P (a, b)) (map_all P (pair_with a) (rising_list n (nat_lt a))
    (rising_all n everything (λ a. All P (map (pair_with a) (rising_list n (nat_lt a)))) (flat_all P (λ a. map (pair_with a) (rising_list n (nat_lt a))) (rising_list n everything) all) a wa refl)) b wb (lt-ltb a b l)

-- no two vertices are equivalent if and only if the graph is bicritical
pub equivalent-none : (g : Graph) → (equivalent_pair g ≡ None) ↔ IsBicritical g
unfolding equivalent_pair
equivalent-none g = (
  (λ e a b wa wb d. elim (cases_lt a b) [
    | inl l ↦ matched e a b wa wb l
    | inr l ↦ let m = matched e b a wb wa (omega (arith, d)) in has_perfect_says g (pair_set a b) (has_perfect-true g (pair_set b a) (pair_set a b) (turned b a) m)
  ]),
  (λ bi. unfound_all (λ k. not (has_perfect g (pair_set k.0 k.1))) (rising_pairs g.order) (λ i d l.
      let w = pairs_rise g.order i d l in let r = w.2 in ap not (has_perfect_found g _ (bi _ _ w.0 w.1 (λ e. omega arith))))),
)
  where
    matched : find (λ k. not (has_perfect g (pair_set k.0 k.1))) (rising_pairs g.order) ≡ None → (a b : ℕ) → Within g.order a → Within g.order b → a < b → HasPerfect g (pair_set a b)
    matched e a b wa wb l = has_perfect_says g (pair_set a b) (not-false (has_perfect g (pair_set a b))
        (pair_holds g.order (λ k. not (has_perfect g (pair_set k.0 k.1)) ≡ false) (all_unfound (λ k. not (has_perfect g (pair_set k.0 k.1))) (rising_pairs g.order) e) a b wa wb l))

-- the first cut pair is there if and only if there is one
pub cut_pair-none : (g : Graph) → (cut_pair g ≡ None) ↔ ((u v : ℕ) → IsCutPair g u v → ⊥)
unfolding cut_pair
cut_pair-none g = (
  (λ e u v c. elim (cases_lt u v) [
    | inl l ↦ few e u v c.first c.second l c.parts
    | inr l ↦ few e v u c.second c.first (less u v l c.different) (subst (λ k. 2 ≤ k) (ap (component_count g) (λ i w. turned u v w i)) c.parts)
  ]),
  (λ h. unfound_all (is_cut_pair g) (rising_pairs g.order) (λ i d l.
      let w = pairs_rise g.order i d l in let r = w.2 in
      false_from_ne_true _ (λ t. h _ _ (record { first = w.0; second = w.1; different = λ e. omega arith; parts = leb-true 2 _ t })))),
)
  where
    less : (a b : ℕ) → b ≤ a → a ≢ b → b < a
    less a b l d = omega (arith, d)

    few : find (is_cut_pair g) (rising_pairs g.order) ≡ None → (u v : ℕ) → Within g.order u → Within g.order v → u < v → 2 ≤ component_count g (pair_set u v) → ⊥
    few e u v wu wv l two = both_ways (is_cut_pair g (u, v)) (pair_holds g.order (λ k. is_cut_pair g k ≡ false) (all_unfound (is_cut_pair g) (rising_pairs g.order) e) u v wu wv l) (le-leb 2 (component_count g (pair_set u v)) two)

-- the shore at a pair as the list has it
abbrev pub pair_shore : Graph → ℕ → ℕ → ℕ → Set
pair_shore g u v a = union (mem (rising_list g.order (joined g (pair_set u v) a))) (singleton u)

pair_shore-is : (g : Graph) (u v a w : ℕ) → Within g.order w → union (joined g (pair_set u v) a) (singleton u) w ≡ pair_shore g u v a w
pair_shore-is g u v a w ww = ap (λ b. b || (u == w)) (sym (mem-rising_list g.order (joined g (pair_set u v) a) w ww))

-- what is true of each shore at each cut pair
pub all_pair_shores : (g : Graph) (P : List ℕ → Type 0) →
    ((u v a : ℕ) → IsBicritical g → IsCutPair g u v → u < v → Within g.order a → pair_set u v a ≡ false → P (rising_list g.order (pair_shore g u v a))) → All P (separation_shores g)
unfolding separation_shores components
all_pair_shores g P h = go (is_bicritical g) (nat_le 4 g.order) refl
  where
    at_pair : (k : ℕ × ℕ) → IsBicritical g → Within g.order k.0 × Within g.order k.1 × (k.0 < k.1) → is_cut_pair g k ≡ true → All P (shores_at_pair g k)
    at_pair k bi w t =
        let l = w.2 in
        let c : IsCutPair g k.0 k.1 = record { first = w.0; second = w.1; different = λ e. omega arith; parts = leb-true 2 (component_count g (pair_set k.0 k.1)) t } in
        All-map P (λ s. rising_list g.order (union (mem s) (singleton k.0))) (components g (pair_set k.0 k.1))
        (All-map (λ s. P (rising_list g.order (union (mem s) (singleton k.0)))) (λ a. rising_list g.order (joined g (pair_set k.0 k.1) a)) (rising_list g.order (is_least g (pair_set k.0 k.1)))
        (all_rising g.order (is_least g (pair_set k.0 k.1)) (λ a. P (rising_list g.order (pair_shore g k.0 k.1 a))) (λ a wa q. h k.0 k.1 a bi c l wa (leads_out g (pair_set k.0 k.1) a q))))

    each : IsBicritical g → (ks : List (ℕ × ℕ)) → All (λ k. Within g.order k.0 × Within g.order k.1 × (k.0 < k.1)) ks → All P (flat_map (shores_at_pair g) (filter (is_cut_pair g) ks))
    each bi ks w = all_flat P (shores_at_pair g) (filter (is_cut_pair g) ks) (all_passing (is_cut_pair g) (λ k. All P (shores_at_pair g k)) ks (λ i d l t. at_pair (get_or ks i d) bi (w i d l) t))

    go : (s t : Bool) → is_bicritical g ≡ s → All P (if s && t then flat_map (shores_at_pair g) (filter (is_cut_pair g) (rising_pairs g.order)) else [])
    go true true e = each ((equivalent-none g).0 (grind arith)) (rising_pairs g.order) (pairs_rise g.order)
    go true false e = All-nil P
    go false t e = All-nil P

module _ (g : Graph) (is : IsGraph g) where
  pub separation_shores-tight : All (λ s. IsTight g (mem s)) (separation_shores g)
  separation_shores-tight = all_pair_shores g (λ s. IsTight g (mem s)) (λ u v a bi c l wa out.
      let m = bi u v c.first c.second c.different in
      listed_tight g (pair_shore g u v a) is (tight-same g (union (joined g (pair_set u v) a) (singleton u)) (pair_shore g u v a) is (pair_shore-is g u v a)
      (separation_tight g is u v c.first c.second c.different m.0 m.1 a wa out)))

  pub separation_cuts-canonical : IsCovered g → All (IsCanonicalCut g) (separation_cuts g)
  unfolding separation_cuts
  separation_cuts-canonical cov = cuts-canonical g (separation_shores g) is (let t = cov.two in omega arith) separation_shores-tight

  -- the components at a cut pair of a bicritical graph are even
  pub pair_even : (u v a : ℕ) → IsBicritical g → IsCutPair g u v → Within g.order a → pair_set u v a ≡ false → is_odd (count g.order (joined g (pair_set u v) a)) ≡ false
  pair_even u v a bi c wa out = let m = bi u v c.first c.second c.different in separation_even g is u v c.first c.second c.different m.0 m.1 a wa out

  -- no cut pair, no cut
  pub no_pair_no_cuts : cut_pair g ≡ None → separation_cuts g ≡ []
  unfolding separation_cuts
  no_pair_no_cuts e = cuts-none g.order (separation_shores g) (all_pair_shores g (λ s. is_nontrivial g.order (canonical_shore g.order (mem s)) ≡ false) (λ u v a bi c l wa out. absurd ((cut_pair-none g).0 e u v c)))

  -- a cut pair, a cut
  module _ (bi : IsBicritical g) (four : 4 ≤ g.order) where
    listed_pair : (u v a : ℕ) (P : List ℕ → Type 0) → All P (separation_shores g) → IsCutPair g u v → u < v → Within g.order a → is_least g (pair_set u v) a ≡ true → P (rising_list g.order (pair_shore g u v a))
    unfolding separation_shores components
    listed_pair u v a P all c l wa la =
        let listed = subst (All P) (ap₂ (λ b d. if b && d then flat_map (shores_at_pair g) (filter (is_cut_pair g) (rising_pairs g.order)) else []) (bicritical-true g bi) (le-leb 4 g.order four)) all in
        let at = pair_holds g.order (λ k. is_cut_pair g k ≡ true → All P (shores_at_pair g k))
        (filter_all (is_cut_pair g) (λ k. All P (shores_at_pair g k)) (rising_pairs g.order) (flat_all P (shores_at_pair g) (filter (is_cut_pair g) (rising_pairs g.order)) listed)) u v c.first c.second l
        (le-leb 2 (component_count g (pair_set u v)) c.parts) in
        rising_all g.order (is_least g (pair_set u v)) (λ a. P (rising_list g.order (pair_shore g u v a)))
        (map_all (λ s. P (rising_list g.order (union (mem s) (singleton u)))) (λ a. rising_list g.order (joined g (pair_set u v) a)) (rising_list g.order (is_least g (pair_set u v)))
        (map_all P (λ s. rising_list g.order (union (mem s) (singleton u))) (components g (pair_set u v)) at)) a wa la

    -- some component at a cut pair gives a nontrivial cut
    wide_shore : (u v : ℕ) → IsCutPair g u v → (a : ℕ) × Within g.order a × (is_least g (pair_set u v) a ≡ true) × (is_nontrivial g.order (canonical_shore g.order (mem (rising_list g.order (pair_shore g u v a)))) ≡ true)
    unfolding component_count
    wide_shore u v c =
        let k = count_member g.order (is_least g (pair_set u v)) (let two = c.parts in omega arith) in
        let out = leads_out g (pair_set u v) k.0 k.2 in
        let x = pair_shore g u v k.0 in
        let m = bi u v c.first c.second c.different in
        (k.0, k.1, k.2, listed_wide g.order x (nontrivial-same g.order (union (joined g (pair_set u v) k.0) (singleton u)) x (pair_shore-is g u v k.0) (separation_nontrivial g is u v c.first c.second c.different m.0 m.1 k.0 k.1 out c)))

    rising_cut : (u v : ℕ) → IsCutPair g u v → u < v → separation_cuts g ≡ [] → ⊥
    unfolding separation_cuts
    rising_cut u v c l e =
        let k = wide_shore u v c in
        let narrow = listed_pair u v k.0 (λ s. is_nontrivial g.order (canonical_shore g.order (mem s)) ≡ false) (cuts-some g.order (separation_shores g) e) c l k.1 k.2 in
        both_ways (is_nontrivial g.order (canonical_shore g.order (mem (rising_list g.order (pair_shore g u v k.0))))) narrow k.3

    -- so the shores at a cut pair give a cut
    pub pair_own_cut : (u v : ℕ) → IsCutPair g u v → cuts_of g.order (shores_at_pair g (u, v)) ≢ []
    unfolding components
    pair_own_cut u v c e =
        let k = wide_shore u v c in
        let P = λ (s : List ℕ). is_nontrivial g.order (canonical_shore g.order (mem s)) ≡ false in
        let narrow = rising_all g.order (is_least g (pair_set u v)) (λ a. P (rising_list g.order (pair_shore g u v a)))
        (map_all (λ s. P (rising_list g.order (union (mem s) (singleton u)))) (λ a. rising_list g.order (joined g (pair_set u v) a)) (rising_list g.order (is_least g (pair_set u v)))
        (map_all P (λ s. rising_list g.order (union (mem s) (singleton u))) (components g (pair_set u v)) (cuts-some g.order (shores_at_pair g (u, v)) e))) k.0 k.1 k.2 in
        both_ways (is_nontrivial g.order (canonical_shore g.order (mem (rising_list g.order (pair_shore g u v k.0))))) narrow k.3

    pub pair_some_cut : (u v : ℕ) → IsCutPair g u v → separation_cuts g ≢ []
    pair_some_cut u v c e = grind (arith, cases_lt u v, rising_cut u v c, rising_cut v u, turned u v)
