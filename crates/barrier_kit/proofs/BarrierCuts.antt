-- What a barrier leaves where each vertex set that is neither empty nor all has an edge of some
-- perfect matching in its cut: odd components, as many as it has vertices. In a covered graph each
-- has a tight cut. Each odd component is left by at least one edge of a perfect matching, and the
-- barrier meets no more of them than it has vertices.
use Rattle.graph_core.proofs.from_counting.Common.{◌≡◌, ℕ, ◌*◌, ◌≤◌, ◌≢◌, Bool, true, false, refl, sym, ap, ap₂, ◌∙◌, arith, ◌&&◌, ◌||◌, not, inl, inr, nat_lt, [], ◌∷◌, cases_Bool, false_from_ne_true, both_ways, and_parts, and_from, not-true, count_zero, some_count, bit_true, count_congr, only_one, complement_odd, some_true, true_some, some_term, total_congr, total_le, total_mul, total_none, total_swap, total_tight, and_fails_second, same_tests, Within, bit, count, is_odd, total, Set, complement, none, some}
use Rattle.barrier_kit.proofs.Matched.{cuts_met, even_order, inner, AreCutsMet}
use Rattle.graph_core.proofs.Common.{covered_perfect, joined_outside, joined_walk, one_leader, some_leader, walk_joined, parity, tight-same, odd_meets, adjacent_from, has_ends-own, joined_back, joined_on, joined_self, component_count, is_least, odd_component_count, IsCovered, Graph, IsGraph, edges_in_cut, first_end, in_cut, inside, second_end, size, IsPerfect, IsBarrier, IsTight, Joined, joined}

pub leads_out : (g : Graph) (s : Set) (u : ℕ) → is_least g s u ≡ true → s u ≡ false
leads_out g s u h = let a = and_parts (not (s u)) (not (some g.order (λ v. joined g s u v && nat_lt v u))) h in not-true (s u) a.0

-- an edge outside s keeps in each component
pub part_step : (g : Graph) (s : Set) (u e : ℕ) → IsGraph g → Within g.order u → Within (size g) e → s (first_end g e) ≡ false → s (second_end g e) ≡ false → joined g s u (first_end g e) ≡ joined g s u (second_end g e)
unfolding Joined
part_step g s u e is wu w a b = same_tests _ _
    (λ t. walk_joined g s is u (second_end g e) wu (joined_on g s u (first_end g e) (second_end g e) (joined_walk g s u (first_end g e) t) step))
    (λ t. walk_joined g s is u (first_end g e) wu (joined_on g s u (second_end g e) (first_end g e) (joined_walk g s u (second_end g e) t) (joined_back g s (first_end g e) (second_end g e) step)))
  where
    step : Joined g s (first_end g e) (second_end g e)
    step = (second_end g e ∷ [], (adjacent_from g s (first_end g e) (second_end g e) e a b w (has_ends-own g e), refl))

-- a vertex of s is in no component
pub part_out : (g : Graph) (s : Set) (u v : ℕ) → IsGraph g → s u ≡ false → s v ≡ true → joined g s u v ≡ false
part_out g s u v is a b = false_from_ne_true _ (λ t. both_ways (s v) (joined_outside g s is u v a t) b)

module _ (g : Graph) (is : IsGraph g) (s c : Set) (lead : (u : ℕ) → c u ≡ true → is_least g s u ≡ true) where
  -- the union of some components, named by their leaders
  unfoldable pub covers : Set
  covers v = some g.order (λ u. c u && joined g s u v)

  pub cover_in : (u v : ℕ) → Within g.order u → c u ≡ true → joined g s u v ≡ true → covers v ≡ true
  unfolding covers
  cover_in u v w h j = true_some g.order (λ u. c u && joined g s u v) u w (and_from (c u) (joined g s u v) h j)

  pub cover_one : (v : ℕ) → Within g.order v → count g.order (λ u. c u && joined g s u v) ≤ 1
  cover_one v w = let a = one_leader g s is v w in let b = total_le g.order (λ u. bit (c u && joined g s u v)) (λ u. bit (is_least g s u && joined g s u v)) (λ u x. grind arith) in omega arith

  pub cover_count : (v : ℕ) → Within g.order v → bit (covers v) ≡ count g.order (λ u. c u && joined g s u v)
  unfolding covers
  cover_count v w = some_count g.order (λ u. c u && joined g s u v) (cover_one v w)

  pub cover_out : (v : ℕ) → s v ≡ true → (u : ℕ) → (c u && joined g s u v) ≡ false
  cover_out v h u = grind (arith, part_out, leads_out)

  pub covers_out : (v : ℕ) → Within g.order v → s v ≡ true → covers v ≡ false
  covers_out v w h = grind (arith, cover_count v w, total_none g.order, cover_out v h)

  pub covers_step : (e : ℕ) → Within (size g) e → s (first_end g e) ≡ false → s (second_end g e) ≡ false → covers (first_end g e) ≡ covers (second_end g e)
  unfolding covers
  covers_step e w a b = same_tests _ _ (λ t. over (first_end g e) (second_end g e) (λ u wu. part_step g s u e is wu w a b) t) (λ t. over (second_end g e) (first_end g e) (λ u wu. sym (part_step g s u e is wu w a b)) t)
    where
      over : (x y : ℕ) → ((u : ℕ) → Within g.order u → joined g s u x ≡ joined g s u y) → some g.order (λ u. c u && joined g s u x) ≡ true → some g.order (λ u. c u && joined g s u y) ≡ true
      over x y h t = let r = some_true g.order (λ u. c u && joined g s u x) t in let p = and_parts (c r.0) (joined g s r.0 x) r.2 in
          true_some g.order (λ u. c u && joined g s u y) r.0 r.1 (and_from (c r.0) (joined g s r.0 y) p.0 (sym (h r.0 r.1) ∙ p.1))

  -- their cuts add up to the cut of the union
  pub cut_family : (m : Set) → total g.order (λ u. bit (c u) * edges_in_cut g m (joined g s u)) ≡ edges_in_cut g m covers
  cut_family m =
      total_congr g.order _ _ (λ u w. sym (total_mul (size g) (bit (c u)) (λ e. bit (m e && in_cut g (joined g s u) e))))
      ∙ total_swap g.order (size g) (λ u e. bit (c u) * bit (m e && in_cut g (joined g s u) e))
      ∙ total_congr (size g) _ _ (λ e w. each e w)
    where
      each : (e : ℕ) → Within (size g) e → total g.order (λ u. bit (c u) * bit (m e && in_cut g (joined g s u) e)) ≡ bit (m e && in_cut g covers e)
      each e w = go (m e) (s (first_end g e)) (s (second_end g e)) refl refl refl
        where
          x : ℕ
          x = first_end g e

          both_out : (a b d k : Bool) → (a && b) ≡ false → (a && d) ≡ false → bit a * bit (k && ((b && not d) || (not b && d))) ≡ 0
          both_out a b d k p q = grind arith

          left : (a b d : Bool) → (a && d) ≡ false → bit a * bit ((b && not d) || (not b && d)) ≡ bit (a && b)
          left a b d h = grind arith

          other' : (b d : Bool) → d ≡ false → bit b ≡ bit ((b && not d) || (not b && d))
          other' b d h = grind arith

          go : (k a b : Bool) → m e ≡ k → s (first_end g e) ≡ a → s (second_end g e) ≡ b → total g.order (λ u. bit (c u) * bit (m e && in_cut g (joined g s u) e)) ≡ bit (m e && in_cut g covers e)
          go false a b t p q = rw t (total_none g.order (λ u. bit (c u) * 0) (λ u x. omega arith))
          go true true true t p q = grind (arith, total_none, both_out, cover_out, covers_out)
          go true false false t p q = grind (arith, total_none g.order, part_step g s, covers_step e w p q)
          go true true false t p q = grind (arith, total_congr, cover_out, cover_count, covers_out)
          go true false true t p q = rw t (total_congr g.order _ _ (λ u x. left (c u) (joined g s u (first_end g e)) (joined g s u (second_end g e)) (cover_out (second_end g e) q u))
              ∙ sym (cover_count (first_end g e) (is e w).0) ∙ other' (covers (first_end g e)) (covers (second_end g e)) (covers_out (second_end g e) (is e w).1 q))

-- all components together are what is outside s
pub covers_all : (g : Graph) (is : IsGraph g) (s : Set) (v : ℕ) → Within g.order v → covers g is s (is_least g s) (λ u h. h) v ≡ complement s v
unfolding covers
covers_all g is s v w = go (s v) refl
  where
    go : (b : Bool) → s v ≡ b → some g.order (λ u. is_least g s u && joined g s u v) ≡ not (s v)
    go true e = covers_out g is s (is_least g s) (λ u h. h) v w e ∙ sym (ap not e)
    go false e = up (some g.order (λ u. is_least g s u && joined g s u v)) (let a = some_leader g s is v w e in let b = some_count g.order (λ u. is_least g s u && joined g s u v) (one_leader g s is v w) in omega arith) ∙ sym (ap not e)
      where
        up : (b : Bool) → 1 ≤ bit b → b ≡ true
        up b h = grind arith

module _ (g : Graph) (is : IsGraph g) (s : Set) (bar : IsBarrier g s) (m : Set) (p : IsPerfect g none m) where
  sum_cuts : total g.order (λ u. bit (is_least g s u) * edges_in_cut g m (joined g s u)) ≡ edges_in_cut g m s
  sum_cuts = cut_family g is s (is_least g s) (λ u h. h) m ∙ total_congr (size g) _ _ (λ e w. ap bit (ap (λ k. m e && k) (ap₂ (λ a b. (a && not b) || (not a && b)) (covers_all g is s (first_end g e) (is e w).0) (covers_all g is s (second_end g e) (is e w).1) ∙ turn (s (first_end g e)) (s (second_end g e)))))
    where
      turn : (a b : Bool) → ((not a && not (not b)) || (not (not a) && not b)) ≡ ((a && not b) || (not a && b))
      turn a b = grind arith

  at_least : (u : ℕ) → Within g.order u → bit (is_least g s u && is_odd (count g.order (joined g s u))) ≤ bit (is_least g s u) * edges_in_cut g m (joined g s u)
  at_least u w = grind (arith, odd_meets)

  enough : total g.order (λ u. bit (is_least g s u) * edges_in_cut g m (joined g s u)) ≤ total g.order (λ u. bit (is_least g s u && is_odd (count g.order (joined g s u))))
  unfolding odd_component_count
  enough = let a = parity g is m s p in let b = sum_cuts in let c : odd_component_count g s ≡ count g.order s = bar in omega arith

  -- no edge of m is inside s
  pub sat_inside : inner g m s ≡ 0
  unfolding odd_component_count
  sat_inside = grind (arith, parity g is m s p, sum_cuts, total_le g.order, at_least)

  -- each odd component has one edge of m in its cut, an even one none
  pub sat_cut : (u : ℕ) → Within g.order u → is_least g s u ≡ true → edges_in_cut g m (joined g s u) ≡ bit (is_odd (count g.order (joined g s u)))
  sat_cut u w l = let a = total_tight g.order (λ u. bit (is_least g s u) * edges_in_cut g m (joined g s u)) (λ u. bit (is_least g s u && is_odd (count g.order (joined g s u)))) at_least enough u w in
      let b : bit (is_least g s u) * edges_in_cut g m (joined g s u) ≡ 1 * edges_in_cut g m (joined g s u) = ap (λ k. bit k * edges_in_cut g m (joined g s u)) l in
      let c : bit (is_least g s u && is_odd (count g.order (joined g s u))) ≡ bit (is_odd (count g.order (joined g s u))) = ap (λ k. bit (k && is_odd (count g.order (joined g s u)))) l in omega arith

module _ (g : Graph) (is : IsGraph g) (met : AreCutsMet g) (s : Set) (bar : IsBarrier g s) where
  -- each component is odd
  pub odd_part : (u a : ℕ) → Within g.order u → is_least g s u ≡ true → Within g.order a → s a ≡ true → is_odd (count g.order (joined g s u)) ≡ true
  odd_part u a wu l wa sa = elim (cases_Bool (is_odd (count g.order (joined g s u)))) [
    | inl t ↦ t
    | inr f ↦ let c = met (joined g s u) u a wu wa (walk_joined g s is u u wu (joined_self g s u)) (part_out g s u a is (leads_out g s u l) sa) in
        let z = sat_cut g is s bar c.0 c.1 u wu l in let y = ap bit f in let d = c.2 in absurd (omega arith)
  ]

  pub one_cut : (u a : ℕ) → Within g.order u → is_least g s u ≡ true → Within g.order a → s a ≡ true → (m : Set) → IsPerfect g none m → edges_in_cut g m (joined g s u) ≡ 1
  one_cut u a wu l wa sa m p = sat_cut g is s bar m p u wu l ∙ ap bit (odd_part u a wu l wa sa)

  -- there are as many as the barrier has vertices
  pub many_parts : (a : ℕ) → Within g.order a → s a ≡ true → count g.order (is_least g s) ≡ count g.order s
  unfolding odd_component_count
  many_parts a wa sa = grind (arith, count_congr g.order, odd_part)

module _ (g : Graph) (is : IsGraph g) (cov : IsCovered g) (s : Set) (bar : IsBarrier g s) where
  -- no edge joins two vertices of a barrier
  pub none_inside : (e : ℕ) → Within (size g) e → first_end g e ≢ second_end g e → inside g s e ≡ false
  none_inside e w d = let a = cov.allowed e w d in let z = count_zero (size g) (λ e. a.0 e && inside g s e) (sat_inside g is s bar a.0 a.1) e w in and_fails_second (a.0 e) (inside g s e) a.2 z

  -- each component has a tight cut
  pub lead_tight : (u a : ℕ) → Within g.order u → is_least g s u ≡ true → Within g.order a → s a ≡ true → IsTight g (joined g s u)
  lead_tight u a wu l wa sa = grind (arith, odd_part g is (cuts_met g is cov) s bar u a wu l wa sa, covered_perfect g is cov, complement_odd g.order (joined g s u), even_order g, one_cut g is (cuts_met g is cov) s bar u a wu l wa sa)

-- each vertex outside s has one leader
pub leader_of : (g : Graph) (s : Set) → IsGraph g → (v : ℕ) → Within g.order v → s v ≡ false → (u : ℕ) × Within g.order u × (is_least g s u ≡ true) × (joined g s u v ≡ true)
leader_of g s is v w o = grind (arith, some_term g.order, some_leader g s is v w o, and_parts, bit_true)

pub leader_same : (g : Graph) (s : Set) → IsGraph g → (u v w : ℕ) → Within g.order u → Within g.order v → Within g.order w → is_least g s u ≡ true → joined g s u v ≡ true → is_least g s w ≡ true → joined g s w v ≡ true → u ≡ w
leader_same g s is u v w wu wv ww lu ju lw jw =
    let a = one_leader g s is v wv in
    let b = some_leader g s is v wv (joined_outside g s is u v (leads_out g s u lu) ju) in
    only_one g.order (λ u. is_least g s u && joined g s u v) (omega arith) u w wu ww (and_from (is_least g s u) (joined g s u v) lu ju) (and_from (is_least g s w) (joined g s w v) lw jw)

-- two vertices of a component have one component
pub part_same : (g : Graph) (s : Set) → IsGraph g → (u a : ℕ) → Within g.order u → Within g.order a → joined g s u a ≡ true → (v : ℕ) → joined g s u v ≡ joined g s a v
part_same g s is u a wu wa j v = grind (arith, same_tests, walk_joined, joined_on, joined_back, joined_walk)

-- each component of g - s, s a barrier, is odd
pub part_odd : (g : Graph) (s : Set) (a u : ℕ) → IsGraph g → AreCutsMet g → IsBarrier g s → Within g.order a → s a ≡ true → Within g.order u → s u ≡ false → is_odd (count g.order (joined g s u)) ≡ true
part_odd g s a u is met bar wa sa wu su = let l = leader_of g s is u wu su in
    ap is_odd (count_congr g.order _ _ (λ v w. sym (part_same g s is l.0 u l.1 wu l.3 v))) ∙ odd_part g is met s bar l.0 a l.1 l.2 wa sa

pub barrier_parts : (g : Graph) (s : Set) (a : ℕ) → IsGraph g → AreCutsMet g → IsBarrier g s → Within g.order a → s a ≡ true → component_count g s ≡ count g.order s
unfolding component_count
barrier_parts g s a is met bar wa sa = many_parts g is met s bar a wa sa

-- in a covered graph it has a tight cut
pub part_tight : (g : Graph) (s : Set) (a u : ℕ) → IsGraph g → IsCovered g → IsBarrier g s → Within g.order a → s a ≡ true → Within g.order u → s u ≡ false → IsTight g (joined g s u)
part_tight g s a u is cov bar wa sa wu su = let l = leader_of g s is u wu su in
    tight-same g (joined g s l.0) (joined g s u) is (λ v w. part_same g s is l.0 u l.1 wu l.3 v) (lead_tight g is cov s bar l.0 a l.1 l.2 wa sa)
