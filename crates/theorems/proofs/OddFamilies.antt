-- Disjoint odd sets that no edge of G - s leaves, each with a number: G - s has at least as many odd
-- components, for each of these sets has one. So s is a barrier if at most one set is missing.
-- Used by: LiftedReasons.
use Rattle.tree_check.proofs.from_counting.Common.{◌≡◌, ℕ, ◌+◌, ◌*◌, ◌≤◌, Bool, true, false, ◌==◌, ◌&&◌, not, sym, ap, ◌∙◌, arith, subst, eqb-true, and_parts, and_from, not-false, not_not, count_congr, count_member, least_of, least_of_is, odd_pos, some_true, true_some, total_congr, total_le, Within, bit, count, is_odd, total, Set, complement, none, some}
use Rattle.barrier_kit.proofs.Common.{leads_out, odd_component_count-parity, odd_same}
use Rattle.graph_core.proofs.Common.{adjacent-edge, image, total_image, is_least, odd_component_count, Graph, IsBarrier, IsGraph, IsPerfect, adjacent, joined}
use Rattle.theorems.proofs.ElpCuts.{nearly_barrier}

module _ (g : Graph) (s : Set) (is : IsGraph g) where
  abbrev odd_lead : Set
  odd_lead u = is_least g s u && is_odd (count g.order (joined g s u))

  -- an odd set that no edge of g - s leaves has an odd component
  odd_inside : (k : Set) → is_odd (count g.order k) ≡ true → ((v : ℕ) → Within g.order v → k v ≡ true → s v ≡ false) → ((u v : ℕ) → k u ≡ true → adjacent g s u v ≡ true → k v ≡ true) → (u : ℕ) × Within g.order u × (k u ≡ true) × (odd_lead u ≡ true)
  unfolding odd_component_count
  odd_inside k odd out closed =
      let same = count_congr g.order (complement (complement k)) k (λ v w. not_not (k v)) in
      let o = sym (odd_component_count-parity g (complement k) is) ∙ ap is_odd same ∙ odd in
      let u = count_member g.order (λ u. is_least g (complement k) u && is_odd (count g.order (joined g (complement k) u))) (odd_pos (odd_component_count g (complement k)) o) in
      let lead = and_parts (is_least g (complement k) u.0) (is_odd (count g.order (joined g (complement k) u.0))) u.2 in
      let ku = not-false (k u.0) (leads_out g (complement k) u.0 lead.0) in (
        u.0,
        u.1,
        ku,
        odd_same g s (complement k) k is (λ v w t. out v w t ∙ sym (ap not t)) closed (λ a b ka adj. not-false (k b) (adjacent-edge g (complement k) a b adj).1) u.0 u.1 ku ∙ u.2,
      )

  module _ (n : ℕ) (sel : Set) (k : ℕ → Set)
      (odd : (i : ℕ) → Within n i → sel i ≡ true → is_odd (count g.order (k i)) ≡ true)
      (out : (i v : ℕ) → Within n i → sel i ≡ true → Within g.order v → k i v ≡ true → s v ≡ false)
      (closed : (i u v : ℕ) → Within n i → sel i ≡ true → k i u ≡ true → adjacent g s u v ≡ true → k i v ≡ true)
      (apart : (i j v : ℕ) → Within n i → Within n j → sel i ≡ true → sel j ≡ true → Within g.order v → k i v ≡ true → k j v ≡ true → i ≡ j) where
    -- the leader of an odd component in the set with the number i
    unfoldable pick : ℕ → ℕ
    pick i = least_of g.order (λ u. k i u && odd_lead u)

    picked : (i : ℕ) → Within n i → sel i ≡ true → Within g.order (pick i) × (k i (pick i) ≡ true) × (odd_lead (pick i) ≡ true)
    unfolding pick
    picked i wi h =
        let u = odd_inside (k i) (odd i wi h) (λ v wv t. out i v wi h wv t) (λ a b t adj. closed i a b wi h t adj) in
        let l = least_of_is g.order (λ u. k i u && odd_lead u) (true_some g.order (λ u. k i u && odd_lead u) u.0 u.1 (and_from (k i u.0) (odd_lead u.0) u.2 u.3)) in
        let q = and_parts (k i (pick i)) (odd_lead (pick i)) l.1 in (l.0, q.0, q.1)

    many_odd : count n sel ≤ odd_component_count g s
    unfolding odd_component_count image
    many_odd =
        let t = total_image n g.order sel pick (λ i. 1) (λ i w h. (picked i w h).0) (λ i j wi wj hi hj e. apart i j (pick i) wi wj hi hj (picked i wi hi).0 (picked i wi hi).1 (subst (λ (u : ℕ). k j u ≡ true) (sym e) (picked j wj hj).1)) in
        let a : count n sel ≡ total g.order (λ u. bit (some n (λ i. sel i && (pick i == u))) * 1) = total_congr n _ _ (λ i w. let z = bit (sel i) in omega arith) ∙ sym t in
        let b = total_le g.order (λ u. bit (some n (λ i. sel i && (pick i == u))) * 1) (λ u. bit (odd_lead u)) (λ u w. scaled (some n (λ i. sel i && (pick i == u))) (odd_lead u) (led u)) in omega arith
      where
        scaled : (b k : Bool) → (b ≡ true → k ≡ true) → bit b * 1 ≤ bit k
        scaled b k h = grind arith

        led : (u : ℕ) → some n (λ i. sel i && (pick i == u)) ≡ true → odd_lead u ≡ true
        led u h =
            let i = some_true n (λ i. sel i && (pick i == u)) h in
            let q = and_parts (sel i.0) (pick i.0 == u) i.2 in ap odd_lead (sym (eqb-true (pick i.0) u q.1)) ∙ (picked i.0 i.1 q.0).2

    pub family_barrier : (m : Set) → IsPerfect g none m → count g.order s ≤ count n sel + 1 → IsBarrier g s
    family_barrier m p few = let k = many_odd in nearly_barrier g s m is p (omega arith)
