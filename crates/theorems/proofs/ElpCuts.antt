-- The two kinds of cuts of Edmonds, Lovász and Pulleyblank, in the textbooks' definitions. A cut
-- pair is a barrier if it leaves an odd component: the order is even, so it leaves two. Otherwise
-- the component of a vertex is a pocket, so there is a perfect matching without the pair. A union of
-- components of a 2-separation is a pocket: a perfect matching without the pair has no edge that
-- leaves it.
use Rattle.tree_check.proofs.from_counting.Common.{◌≡◌, ◌≢◌, ℕ, suc, ◌+◌, ◌*◌, ◌≤◌, Bool, true, false, ◌&&◌, ◌||◌, not, refl, sym, ap, ◌∙◌, arith, ◌↔◌, inl, inr, and_from, cases_eq, count_complement, count_congr, count_plus, count_singleton, eq-eqb, eqb-true, false_from_ne_true, member_count, ne_eqb, odd-double, odd_three, total_congr, total_none, true≢false, two_of, Within, bit, count, is_odd, Set, complement, none, pair_set, singleton, union}
use Rattle.barrier_kit.proofs.Common.{leader_of, leader_same, leads_out, part_same, part_step, part_out, barrier_pair, few_odd_components, same_parity, ends_out, even_order, inner}
use Rattle.graph_core.proofs.Common.{covered_perfect, degrees, joined_self, missed_edges, perfect_matching, perfect_misses, walk_joined, component_count, is_least, odd_component_count, joined, degree, first_end, in_cut, second_end, size, Graph, HasPerfect, IsBarrier, IsCovered, IsCutPair, IsGraph, IsNontrivial, IsPerfect, IsTight}
use Rattle.separation_kit.proofs.Separations.{separation_even}
use Rattle.theorems.proofs.Pockets.{Pocket, pocket_perfect, pocket_tight}

-- a set that leaves at most one odd component less than it has vertices is a barrier
pub nearly_barrier : (g : Graph) (s m : Set) → IsGraph g → IsPerfect g none m → count g.order s ≤ odd_component_count g s + 1 → IsBarrier g s
nearly_barrier g s m is p near = settle (odd_component_count g s) (count g.order s) (few_odd_components g s m is p) near (same_parity g s is (even_order g m is p))
  where
    settle : (o k : ℕ) → o ≤ k → k ≤ o + 1 → is_odd o ≡ is_odd k → o ≡ k
    settle o k a b q = elim (cases_eq o k) [
      | inl e ↦ e
      | inr n ↦ let e : k ≡ suc o = omega (arith, n) in absurd (flip (is_odd o) (q ∙ ap is_odd e))
    ]
      where
        flip : (x : Bool) → x ≡ not x → ⊥
        flip true h = true≢false h
        flip false h = true≢false (sym h)

pair_count : (n u v : ℕ) → Within n u → Within n v → u ≢ v → count n (pair_set u v) ≡ 2
pair_count n u v wu wv d = let e = count_plus n (singleton u) v wv (ne_eqb u v d) in let f = count_singleton n u wu in omega arith

pair_first : (u v : ℕ) → pair_set u v u ≡ true
pair_first u v = grind (arith, eq-eqb u u refl)

pair_second : (u v : ℕ) → pair_set u v v ≡ true
pair_second u v = grind (arith, eq-eqb v v refl)

module _ (g : Graph) (u v : ℕ) (is : IsGraph g) (cov : IsCovered g) (c : IsCutPair g u v) where
  abbrev pair : Set
  pair = pair_set u v

  abbrev Even : Type 0
  Even = (a : ℕ) → Within g.order a → pair a ≡ false → is_odd (count g.order (joined g pair a)) ≡ false

  two_leads : (l k : ℕ) × Within g.order l × Within g.order k × (l ≢ k) × (is_least g pair l ≡ true) × (is_least g pair k ≡ true)
  unfolding component_count
  two_leads = two_of g.order (is_least g pair) c.parts

  -- even components leave a perfect matching
  perfect_from : Even → HasPerfect g pair
  perfect_from even =
      let t = two_leads in
      let l = t.0 in let k = t.1 in
      let lo = leads_out g pair l t.5 in
      let ko = leads_out g pair k t.6 in
      pocket_perfect g is (joined g pair l) u v (record {
        first = c.first;
        second = c.second;
        different = c.different;
        first_out = part_out g pair l u is lo (pair_first u v);
        second_out = part_out g pair l v is lo (pair_second u v);
        even = even l t.2 lo;
        some = member_count g.order (joined g pair l) l t.2 (own l t.2);
        closed = λ e w a b. alike (joined g pair l (first_end g e)) (joined g pair l (second_end g e)) (part_step g pair l e is t.2 w a b);
      }) cov k t.3 (false_from_ne_true (joined g pair l k) (λ j. t.4 (leader_same g pair is l k k t.2 t.3 t.3 t.5 j t.6 (own k t.3)))) ko
    where
      alike : (a b : Bool) → a ≡ b → ((a && not b) || (not a && b)) ≡ false
      alike a b h = grind arith

      own : (a : ℕ) → Within g.order a → joined g pair a a ≡ true
      own a w = walk_joined g pair is a a w (joined_self g pair a)

  pub by_parity : HasPerfect g pair ↔ Even
  by_parity = ((λ n a wa o. separation_even g is u v c.first c.second c.different n.0 n.1 a wa o), perfect_from)

  -- an odd component makes the pair a barrier
  odd_barrier : (a : ℕ) → Within g.order a → pair a ≡ false → is_odd (count g.order (joined g pair a)) ≡ true → IsBarrier g pair
  unfolding odd_component_count
  odd_barrier a wa oa odd =
      let m = covered_perfect g is cov in
      let l = leader_of g pair is a wa oa in
      let same = ap is_odd (count_congr g.order (joined g pair l.0) (joined g pair a) (λ x w. part_same g pair is l.0 a l.1 wa l.3 x)) in
      let one = member_count g.order (λ x. is_least g pair x && is_odd (count g.order (joined g pair x))) l.0 l.1 (and_from (is_least g pair l.0) (is_odd (count g.order (joined g pair l.0))) l.2 (same ∙ odd)) in
      let two = pair_count g.order u v c.first c.second c.different in
      nearly_barrier g pair m.0 is m.1 (omega arith)

  pub by_barrier : HasPerfect g pair ↔ (¬ IsBarrier g pair)
  by_barrier = (
    (λ n bar. barrier_pair g pair u v is bar c.first c.second c.different (pair_first u v) (pair_second u v) n.0 n.1),
    (λ no. perfect_from (λ a wa oa. false_from_ne_true (is_odd (count g.order (joined g pair a))) (λ odd. no (odd_barrier a wa oa odd)))),
  )

module _ (g : Graph) (u v : ℕ) (is : IsGraph g) (c : IsCutPair g u v) (n : Set) (p : IsPerfect g (pair_set u v) n) where
  even_left : is_odd g.order ≡ false
  even_left =
      let a = missed_edges g (pair_set u v) n is (perfect_matching g (pair_set u v) n p) in
      let b = perfect_misses g (pair_set u v) n p in
      let x = count_complement g.order (pair_set u v) in
      let y = pair_count g.order u v c.first c.second c.different in
      let k = count (size g) n in
      let q : g.order ≡ (k + 1) + (k + 1) = omega arith in ap is_odd q ∙ odd-double (k + 1)

  module _ (m : Set) (mu : m u ≡ false) (mv : m v ≡ false) (some : 1 ≤ count g.order m) (more : count g.order m + 3 ≤ g.order)
      (closed : (e : ℕ) → Within (size g) e → pair_set u v (first_end g e) ≡ false → pair_set u v (second_end g e) ≡ false → in_cut g m e ≡ false) where
    even_union : is_odd (count g.order m) ≡ false
    even_union =
        let k = inner g n m in
        let a = total_congr g.order (λ x. bit (m x)) (λ x. bit (m x) * degree g n x) (λ x w. each (m x) (degree g n x) (λ h. p.once x w (out x h))) in
        let b = degrees g is n m in
        let z = total_none (size g) (λ e. bit (n e && in_cut g m e)) (λ e w. ap bit (both (n e) (in_cut g m e) (λ t. let o = ends_out g (pair_set u v) n is p e w t in closed e w o.0 o.1))) in
        let q : count g.order m ≡ k + k = omega arith in ap is_odd q ∙ odd-double k
      where
        each : (b : Bool) (d : ℕ) → (b ≡ true → d ≡ 1) → bit b ≡ bit b * d
        each b d h = grind arith

        both : (a b : Bool) → (a ≡ true → b ≡ false) → (a && b) ≡ false
        both a b h = grind arith

        out : (x : ℕ) → m x ≡ true → pair_set u v x ≡ false
        out x h = grind (arith, mu, mv, eqb-true)

    pub union_cut : IsTight g (union m (singleton u)) × IsNontrivial g.order (union m (singleton u))
    union_cut =
        let pocket : Pocket g m u v = record { first = c.first; second = c.second; different = c.different; first_out = mu; second_out = mv; even = even_union; some = some; closed = closed } in
        let t = pocket_tight g is m u v pocket even_left in
        let k = count_plus g.order m u c.first mu in
        let x = count_complement g.order (union m (singleton u)) in
        (t, record { inside = odd_three (count g.order (union m (singleton u))) t.odd (omega arith); outside = odd_three (count g.order (complement (union m (singleton u)))) t.odd_complement (omega arith) })
