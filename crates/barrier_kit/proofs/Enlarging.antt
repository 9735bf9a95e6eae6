-- A barrier grows by a vertex v of an odd component K if K - v has no perfect matching. By the
-- theorem of Tutte and Berge, K - v has a set that shows this; together with the barrier and v it
-- is a barrier.
use Rattle.graph_core.proofs.from_counting.Common.{◌≡◌, ℕ, suc, zero, ◌+◌, ◌≤◌, Bool, true, false, ◌==◌, refl, sym, ap, ap₂, ◌∙◌, arith, ◌&&◌, ◌||◌, not, ne_eqb, eqb-true, inl, inr, nat_lt, List, [], ◌∷◌, same_tests, cases_eq, false_from_ne_true, both_ways, count_singleton, some_congr, count_complement, count_congr, odd-add, total_add, total_congr, Within, bit, count, is_odd, Set, complement, minus, none, singleton, union}
use Rattle.barrier_kit.proofs.BarrierCuts.{leader_same, leads_out}
use Rattle.barrier_kit.proofs.Barriers.{few_odd_components, odd_component_count-parity}
use Rattle.graph_core.proofs.Common.{none_missed-perfect, joined_outside, joined_walk, walk_joined, adjacent-edge, adjacent_back, adjacent_from, adjacent_within, joined_on, joined_self, is_least, odd_component_count, Graph, IsGraph, IsPerfect, missed_count, IsBarrier, Joined, Walk, adjacent, joined}
use Rattle.barrier_kit.proofs.Matched.{even_order}
use Rattle.graph_facts.proofs.from_match_core.TutteBerge.{TutteBerge, tutte_berge}

walk_into : (g : Graph) (s t q : Set) → IsGraph g → ((v : ℕ) → Within g.order v → q v ≡ true → s v ≡ t v) → ((u v : ℕ) → q u ≡ true → adjacent g s u v ≡ true → q v ≡ true) →
    (ws : List ℕ) (u v : ℕ) → q u ≡ true → Walk (adjacent g s) u ws v → Walk (adjacent g t) u ws v
walk_into g s t q is agree closed [] u v qu w = w
walk_into g s t q is agree closed (y ∷ ws) u v qu w =
    let p = adjacent-edge g s u y w.0 in
    let i = adjacent_within g s is u y w.0 in
    let qy = closed u y qu w.0 in
    (adjacent_from g t u y p.2.0 (sym (agree u i.0 qu) ∙ p.0) (sym (agree y i.1 qy) ∙ p.1) p.2.1 p.2.2, walk_into g s t q is agree closed ws y v qy w.1)

-- two sets that agree on q, which no edge outside them leaves, leave the same components there
module _ (g : Graph) (s t q : Set) (is : IsGraph g) (agree : (v : ℕ) → Within g.order v → q v ≡ true → s v ≡ t v)
    (closed_s : (u v : ℕ) → q u ≡ true → adjacent g s u v ≡ true → q v ≡ true)
    (closed_t : (u v : ℕ) → q u ≡ true → adjacent g t u v ≡ true → q v ≡ true) where
  pub joined_same : (u v : ℕ) → Within g.order u → q u ≡ true → joined g s u v ≡ joined g t u v
  unfolding Joined
  joined_same u v wu qu = same_tests _ _
      (λ h. let j = joined_walk g s u v h in walk_joined g t is u v wu (j.0, walk_into g s t q is agree closed_s j.0 u v qu j.1))
      (λ h. let j = joined_walk g t u v h in walk_joined g s is u v wu (j.0, walk_into g t s q is (λ v w k. sym (agree v w k)) closed_t j.0 u v qu j.1))

  pub leads_same : (u : ℕ) → Within g.order u → q u ≡ true → is_least g s u ≡ is_least g t u
  leads_same u wu qu = ap₂ (λ a b. not a && not b) (agree u wu qu) (some_congr g.order _ _ (λ v w. ap (λ k. k && nat_lt v u) (joined_same u v wu qu)))

  pub odd_same : (u : ℕ) → Within g.order u → q u ≡ true → (is_least g s u && is_odd (count g.order (joined g s u))) ≡ (is_least g t u && is_odd (count g.order (joined g t u)))
  odd_same u wu qu = ap₂ (λ a b. a && is_odd b) (leads_same u wu qu) (count_congr g.order _ _ (λ v w. joined_same u v wu qu))

pub odd_component_count-congr : (g : Graph) (s t : Set) → IsGraph g → ((v : ℕ) → Within g.order v → s v ≡ t v) → odd_component_count g s ≡ odd_component_count g t
unfolding odd_component_count
odd_component_count-congr g s t is h = count_congr g.order _ _ (λ u w. odd_same g s t (λ v. true) is (λ v w q. h v w) (λ u v q a. refl) (λ u v q a. refl) u w refl)

pub barrier_congr : (g : Graph) (s t : Set) → IsGraph g → ((v : ℕ) → Within g.order v → s v ≡ t v) → IsBarrier g s → IsBarrier g t
barrier_congr g s t is h b = sym (odd_component_count-congr g s t is h) ∙ b ∙ count_congr g.order _ _ h

-- the number of odd components and of the vertices of s are odd together
pub same_parity : (g : Graph) (s : Set) → IsGraph g → is_odd g.order ≡ false → is_odd (odd_component_count g s) ≡ is_odd (count g.order s)
same_parity g s is even = grind (arith, odd_component_count-parity g s is, odd-add (count g.order s) (count g.order (complement s)), count_complement g.order s)

module _ (g : Graph) (is : IsGraph g) (m : Set) (p : IsPerfect g none m) (s : Set) (bar : IsBarrier g s)
    (l : ℕ) (wl : Within g.order l) (lead : is_least g s l ≡ true) (odd : is_odd (count g.order (joined g s l)) ≡ true)
    (v : ℕ) (wv : Within g.order v) (kv : joined g s l v ≡ true) (no_match : (k : Set) → IsPerfect g (complement (minus (joined g s l) (singleton v))) k → ⊥) where
  abbrev part : Set
  part = joined g s l

  abbrev r : Set
  r = complement (minus part (singleton v))

  t : TutteBerge g r
  t = tutte_berge g r is

  abbrev big : Set
  big = union s (union (singleton v) t.s)

  part_own : part l ≡ true
  part_own = walk_joined g s is l l wl (joined_self g s l)

  in_part : (w : ℕ) → t.s w ≡ true → (part w ≡ true) × ((v == w) ≡ false)
  in_part w h = grind arith

  v_in : (w : ℕ) → (v == w) ≡ true → part w ≡ true
  v_in w h = ap part (sym (eqb-true v w h)) ∙ kv

  s_out : (w : ℕ) → part w ≡ true → s w ≡ false
  s_out w h = joined_outside g s is l w (leads_out g s l lead) h

  step : (u w : ℕ) → part u ≡ true → adjacent g s u w ≡ true → part w ≡ true
  unfolding Joined
  step u w h a = walk_joined g s is l w wl (joined_on g s l u w (joined_walk g s l u h) (w ∷ [], (a, refl)))

  smaller : (u w : ℕ) → adjacent g big u w ≡ true → adjacent g s u w ≡ true
  smaller u w a = grind arith

  -- outside the component all stays
  outer : (u : ℕ) → Within g.order u → part u ≡ false → (is_least g s u && is_odd (count g.order (joined g s u))) ≡ (is_least g big u && is_odd (count g.order (joined g big u)))
  outer u w h = odd_same g s big (complement part) is (λ w x q. grind arith) closed (λ a b q k. closed a b q (smaller a b k)) u w (ap not h)
    where
      closed : (a b : ℕ) → complement part a ≡ true → adjacent g s a b ≡ true → complement part b ≡ true
      closed a b q k = ap not (false_from_ne_true (part b) (λ pb. both_ways (complement part a) (ap not (step b a pb (adjacent_back g s a b k))) q))

  -- inside, the components are those of what Tutte and Berge left
  inner_same : (u : ℕ) → Within g.order u → part u ≡ true → (is_least g big u && is_odd (count g.order (joined g big u))) ≡ (is_least g (union r t.s) u && is_odd (count g.order (joined g (union r t.s) u)))
  inner_same u w h = odd_same g big (union r t.s) part is (λ w x q. agree (s w) (v == w) (t.s w) (part w) q (s_out w)) (λ a b q k. step a b q (smaller a b k))
      (λ a b q k. grind arith) u w h
    where
      agree : (a b c d : Bool) → d ≡ true → (d ≡ true → a ≡ false) → (a || (b || c)) ≡ (not (d && not b) || c)
      agree a b c d h f = grind arith

  pointwise : (u : ℕ) → Within g.order u → bit (is_least g big u && is_odd (count g.order (joined g big u))) + bit (singleton l u) ≡ bit (is_least g s u && is_odd (count g.order (joined g s u))) + bit (is_least g (union r t.s) u && is_odd (count g.order (joined g (union r t.s) u)))
  pointwise u w = go (part u) refl
    where
      removed : part u ≡ false → (is_least g (union r t.s) u && is_odd (count g.order (joined g (union r t.s) u))) ≡ false
      removed h = grind arith

      go : (b : Bool) → part u ≡ b → bit (is_least g big u && is_odd (count g.order (joined g big u))) + bit (singleton l u) ≡ bit (is_least g s u && is_odd (count g.order (joined g s u))) + bit (is_least g (union r t.s) u && is_odd (count g.order (joined g (union r t.s) u)))
      go false h = let a = ap bit (outer u w h) in let b = ap bit (removed h) in
          let c : bit (singleton l u) ≡ 0 = ap bit (ne_eqb l u (λ e. both_ways (part u) h (ap part (sym e) ∙ part_own))) in omega arith
      go true h = let a = ap bit (inner_same u w h) in elim (cases_eq l u) [
        | inl e ↦ grind arith
        | inr e ↦ grind (arith, ne_eqb l u e, false_from_ne_true, leader_same g s is l u u wl w w lead h, walk_joined g s is u u w (joined_self g s u), joined_self g s u)
      ]

  parts_sum : odd_component_count g big + 1 ≡ odd_component_count g s + odd_component_count g (union r t.s)
  unfolding odd_component_count
  parts_sum =
      let a = total_add g.order (λ u. bit (is_least g big u && is_odd (count g.order (joined g big u)))) (λ u. bit (singleton l u)) in
      let b = total_add g.order (λ u. bit (is_least g s u && is_odd (count g.order (joined g s u)))) (λ u. bit (is_least g (union r t.s) u && is_odd (count g.order (joined g (union r t.s) u)))) in
      let c = count_singleton g.order l wl in let d = total_congr g.order _ _ pointwise in omega arith

  big_count : count g.order big ≡ count g.order s + (1 + count g.order t.s)
  big_count =
      let a = total_congr g.order (λ w. bit (big w)) (λ w. bit (s w) + (bit (singleton v w) + bit (t.s w))) (λ w x. bits (s w) (v == w) (t.s w) (part w) (s_out w) (v_in w) (in_part w)) in
      let b = total_add g.order (λ w. bit (s w)) (λ w. bit (singleton v w) + bit (t.s w)) in
      let c = total_add g.order (λ w. bit (singleton v w)) (λ w. bit (t.s w)) in
      let d = count_singleton g.order v wv in omega arith
    where
      bits : (a b c d : Bool) → (d ≡ true → a ≡ false) → (b ≡ true → d ≡ true) → (c ≡ true → (d ≡ true) × (b ≡ false)) → bit (a || (b || c)) ≡ bit a + (bit b + bit c)
      bits a b c d h k l = grind arith

  -- the barrier grows
  pub enlarge : (b : Set) × IsBarrier g b × ((w : ℕ) → s w ≡ true → b w ≡ true) × (b v ≡ true)
  enlarge = (big, barrier, (λ w h. grind arith), grind arith)
    where
      settle : (k c d o n : ℕ) → o + 1 ≡ c + (k + d) → n ≡ c + (1 + d) → o ≤ n → (k ≡ 0 → ⊥) → is_odd o ≡ is_odd n → o ≡ n
      settle zero c d o n e f h i q = absurd (i refl)
      settle (suc zero) c d o n e f h i q = absurd (flip (is_odd o) (q ∙ ap is_odd (next e f)))
        where
          next : o + 1 ≡ c + (suc zero + d) → n ≡ c + (1 + d) → n ≡ suc o
          next e f = omega arith

          flip : (x : Bool) → x ≡ not x → ⊥
          flip x h = grind arith
      settle (suc (suc k)) c d o n e f h i q = omega arith

      barrier : IsBarrier g big
      barrier = settle (missed_count g r t.m) (count g.order s) (count g.order t.s) (odd_component_count g big) (count g.order big)
          (let a = parts_sum in let b : odd_component_count g s ≡ count g.order s = bar in let c = t.equal in omega arith)
          big_count (few_odd_components g big m is p) (λ z. no_match t.m (none_missed-perfect g r t.m t.is z)) (same_parity g big is (even_order g m is p))
