-- Half of a barrier S beside a tight cut: for the shore P that has one odd component fewer than
-- vertices of S, S ∩ P is a barrier. If it is a single vertex b, some component is a gate of P: it has
-- vertices in P, from which edges lead out of it to b only.
-- Used by: GateSteps, GatePockets, AllShelters.
use Rattle.tree_check.proofs.from_counting.Common.{◌≡◌, ◌≢◌, ℕ, ◌+◌, ◌*◌, ◌≤◌, ◌<◌, ◌⊎◌, Bool, true, false, ◌&&◌, ◌||◌, not, refl, sym, ap, ◌∙◌, arith, cond, inl, inr, [], ◌∷◌, same_tests, alike_not_apart, true_from_ne_false, cases_Bool, cases_lt, and_parts, and_from, and_comm, and_fails_second, but_from, not_not, both_ways, false_from_ne_true, not-true, odd-add, odd_pos, only_one, count_congr, count_split, count_mono, count_member, count_zero, member_count, Within, bit, count, is_odd, Set, none, minus, meet, complement}
use Rattle.barrier_kit.proofs.Common.{lead_tight, leader_of, leads_out, odd_same, part_step, tight-turned, nontrivial-turned}
use Rattle.graph_core.proofs.Common.{covered_perfect, joined_self, joined_on, joined_back, joined_walk, walk_joined, joined_outside, adjacent-edge, has_ends-cases, is_least, odd_component_count, Graph, HasEnds, IsCovered, IsGraph, IsBarrier, IsPerfect, IsTight, IsNontrivial, adjacent, edges_in_cut, first_end, in_cut, second_end, size, Joined, joined}
use Rattle.quick_kinds.proofs.from_brick_kit.CutEnds.{ends_within}
use Rattle.quick_kinds.proofs.from_brick_kit.PairSeparations.{stays_joined}
use Rattle.theorems.proofs.ElpCuts.{nearly_barrier}
use Rattle.theorems.proofs.BarrierCorners.{at_most, both_shores, corner_cut, from_s, lead_out, none_from_s, not_same, part_is_odd}

-- a gate of the shore p: a tight shore w with an odd number of vertices outside p, some in p, and not
-- all that are outside p; each edge that leaves w from a vertex of p leads to b, which is in p
pub record Gate (g : Graph) (p w : Set) (b : ℕ) : Type 0 where
  pub within : Within g.order b
  pub tight : IsTight g w
  pub odd : is_odd (count g.order (minus w p)) ≡ true
  pub some : 1 ≤ count g.order (meet w p)
  pub more : 1 ≤ count g.order (minus (complement p) w)
  pub out_shore : p b ≡ true
  pub out_set : w b ≡ false
  pub closed : (e u v : ℕ) → Within (size g) e → HasEnds g e u v → w u ≡ true → p u ≡ true → w v ≡ false → v ≡ b

module _ (g : Graph) (is : IsGraph g) (cov : IsCovered g) (s : Set) (bar : IsBarrier g s) (a : ℕ) (wa : Within g.order a) (sa : s a ≡ true) where
  -- the barrier's vertices in p are a barrier with two vertices, or some component is a gate of p
  abbrev pub Half : Set → Type 0
  Half p = (IsBarrier g (meet s p) × (2 ≤ count g.order (meet s p))) ⊎ ((w : Set) × (b : ℕ) × Gate g p w b)

  -- the part of a component in y
  abbrev corner : Set → ℕ → Set
  corner y u = meet (joined g s u) y

  -- the components that have an odd number of vertices in y
  abbrev odd_at : Set → Set
  odd_at y u = is_least g s u && is_odd (count g.order (corner y u))

  -- the shore y has one odd corner more than vertices of the barrier
  module _ (y : Set) (ty : IsTight g y) (full : count g.order (odd_at y) ≡ count g.order (meet s y) + 1) where
    -- the end in y of an edge of the cut is in an odd corner
    cross_end : (e v w : ℕ) → Within (size g) e → HasEnds g e v w → y v ≡ true → y w ≡ false → (s v ≡ false) × ((u : ℕ) → Within g.order u → is_least g s u ≡ true → joined g s u v ≡ true → is_odd (count g.order (corner y u)) ≡ true)
    cross_end e v w we ends yv yw = (
      false_from_ne_true (s v) (λ sv. let i = member_count (size g) (from_s g is cov s bar a wa sa y m.0 m.1) e we (in_from sv) in let j = none_from_s g is cov s bar a wa sa y ty full m.0 m.1 in absurd (omega arith)),
      λ u wu l k. true_from_ne_false (is_odd (count g.order (corner y u))) (λ even.
          let i = member_count (size g) (λ e. m.0 e && in_cut g (corner y u) e) e we (in_corner u k) in
          let j = corner_cut g is cov s bar a wa sa y ty full m.0 m.1 u wu in
          let n : bit (is_least g s u) * edges_in_cut g m.0 (corner y u) ≡ 1 * edges_in_cut g m.0 (corner y u) = ap (λ b. bit b * edges_in_cut g m.0 (corner y u)) l in
          let o : bit (odd_at y u) ≡ 0 = ap bit (fails (is_least g s u) (is_odd (count g.order (corner y u))) even) in absurd (omega arith)),
    )
      where
        fails : (b k : Bool) → k ≡ false → (b && k) ≡ false
        fails b k h = grind arith

        no_loop : first_end g e ≢ second_end g e
        no_loop l = elim ends [
          | inl h ↦ both_ways (y w) yw (ap y (sym (sym h.0 ∙ l ∙ h.1)) ∙ yv)
          | inr h ↦ both_ways (y w) yw (ap y (sym h.0 ∙ l ∙ h.1) ∙ yv)
        ]

        m : (m : Set) × IsPerfect g none m × (m e ≡ true)
        m = cov.allowed e we no_loop

        in_from : s v ≡ true → from_s g is cov s bar a wa sa y m.0 m.1 e ≡ true
        in_from sv = elim ends [
          | inl h ↦ first (m.0 e) (y (first_end g e)) (y (second_end g e)) (s (first_end g e)) (s (second_end g e)) m.2 (ap y h.0 ∙ yv) (ap s h.0 ∙ sv) (ap y h.1 ∙ yw)
          | inr h ↦ second (m.0 e) (y (first_end g e)) (y (second_end g e)) (s (first_end g e)) (s (second_end g e)) m.2 (ap y h.1 ∙ yv) (ap s h.1 ∙ sv) (ap y h.0 ∙ yw)
        ]
          where
            first : (k c d i j : Bool) → k ≡ true → c ≡ true → i ≡ true → d ≡ false → (k && (((c && i) && not d) || ((d && j) && not c))) ≡ true
            first k c d i j p q r t = grind arith

            second : (k c d i j : Bool) → k ≡ true → d ≡ true → j ≡ true → c ≡ false → (k && (((c && i) && not d) || ((d && j) && not c))) ≡ true
            second k c d i j p q r t = grind arith

        in_corner : (u : ℕ) → joined g s u v ≡ true → (m.0 e && in_cut g (corner y u) e) ≡ true
        in_corner u k = elim ends [
          | inl h ↦ first (m.0 e) (joined g s u (first_end g e)) (y (first_end g e)) (joined g s u (second_end g e)) (y (second_end g e)) m.2 (ap (joined g s u) h.0 ∙ k) (ap y h.0 ∙ yv) (ap y h.1 ∙ yw)
          | inr h ↦ second (m.0 e) (joined g s u (first_end g e)) (y (first_end g e)) (joined g s u (second_end g e)) (y (second_end g e)) m.2 (ap (joined g s u) h.1 ∙ k) (ap y h.1 ∙ yv) (ap y h.0 ∙ yw)
        ]
          where
            first : (k b c d i : Bool) → k ≡ true → b ≡ true → c ≡ true → i ≡ false → (k && (((b && c) && not (d && i)) || (not (b && c) && (d && i)))) ≡ true
            first k b c d i p q r t = grind arith

            second : (k b c d i : Bool) → k ≡ true → d ≡ true → i ≡ true → c ≡ false → (k && (((b && c) && not (d && i)) || (not (b && c) && (d && i)))) ≡ true
            second k b c d i p q r t = grind arith

    -- walks of an even corner stay in it
    even_stays : (u : ℕ) → Within g.order u → is_least g s u ≡ true → is_odd (count g.order (corner y u)) ≡ false → (v w : ℕ) → joined g s u v ≡ true → joined g s u w ≡ true → y v ≡ true → y w ≡ true
    even_stays u wu l even v w jv jw yv = (and_parts (joined g s u w) (y w) (stays_joined g s (corner y u) is closed v w
        (joined_on g s v u w (joined_back g s u v (joined_walk g s u v jv)) (joined_walk g s u w jw)) (and_from (joined g s u v) (y v) jv yv))).1
      where
        one : (e x z : ℕ) → Within (size g) e → HasEnds g e x z → joined g s u x ≡ joined g s u z → corner y u x ≡ true → corner y u z ≡ true
        one e x z we ends same h =
            let k = and_parts (joined g s u x) (y x) h in
            elim (cases_Bool (y z)) [
              | inl yz ↦ and_from (joined g s u z) (y z) (sym same ∙ k.0) yz
              | inr yz ↦ absurd (both_ways (is_odd (count g.order (corner y u))) even ((cross_end e x z we ends k.1 yz).1 u wu l k.0))
            ]

        closed : (e : ℕ) → Within (size g) e → s (first_end g e) ≡ false → s (second_end g e) ≡ false → in_cut g (corner y u) e ≡ false
        closed e we i j =
            let k = part_step g s u e is wu we i j in
            alike_not_apart (corner y u (first_end g e)) (corner y u (second_end g e)) (same_tests (corner y u (first_end g e)) (corner y u (second_end g e))
            (one e (first_end g e) (second_end g e) we (inl (refl, refl)) k) (one e (second_end g e) (first_end g e) we (inr (refl, refl)) (sym k)))

    -- an edge from a component leads to the barrier; an edge from its part outside y leads to the
    -- barrier outside y
    leaves : (u e x z : ℕ) → Within g.order u → is_least g s u ≡ true → Within (size g) e → HasEnds g e x z → joined g s u x ≡ true → y x ≡ false → joined g s u z ≡ false → (s z ≡ true) × (y z ≡ false)
    leaves u e x z wu l we ends jx yx jz = (in_s, false_from_ne_true (y z) (λ yz. both_ways (s z) (cross_end e z x we (turn ends) yz yx).0 in_s))
      where
        turn : HasEnds g e x z → HasEnds g e z x
        turn h = elim h [ inl i ↦ inr (i.0, i.1) | inr i ↦ inl (i.0, i.1) ]

        sx : s x ≡ false
        sx = joined_outside g s is u x (leads_out g s u l) jx

        in_s : s z ≡ true
        in_s = true_from_ne_false (s z) (λ sz. both_ways (joined g s u z) jz (elim ends [
          | inl h ↦ ap (joined g s u) (sym h.1) ∙ sym (part_step g s u e is wu we (ap s h.0 ∙ sx) (ap s h.1 ∙ sz)) ∙ ap (joined g s u) h.0 ∙ jx
          | inr h ↦ ap (joined g s u) (sym h.0) ∙ part_step g s u e is wu we (ap s h.0 ∙ sz) (ap s h.1 ∙ sx) ∙ ap (joined g s u) h.1 ∙ jx
        ]))

    -- a component with an odd number of vertices outside y is outside y
    outside_y : (u : ℕ) → Within g.order u → odd_at (complement y) u ≡ true → (v : ℕ) → joined g s u v ≡ true → y v ≡ false
    outside_y u wu h v jv =
        let k = and_parts (is_least g s u) (is_odd (count g.order (corner (complement y) u))) h in
        let w = count_member g.order (corner (complement y) u) (odd_pos (count g.order (corner (complement y) u)) k.1) in
        let q = and_parts (joined g s u w.0) (complement y w.0) w.2 in
        false_from_ne_true (y v) (λ yv. both_ways (y w.0) (not-true (y w.0) q.1) (even_stays u wu k.0 (even k.0 k.1) v w.0 jv q.0 yv))
      where
        even : is_least g s u ≡ true → is_odd (count g.order (corner (complement y) u)) ≡ true → is_odd (count g.order (corner y u)) ≡ false
        even l o =
            let i = count_split g.order (joined g s u) y in
            let n = odd-add (count g.order (meet (joined g s u) y)) (count g.order (minus (joined g s u) y)) in
            bits (is_odd (count g.order (corner y u))) (is_odd (count g.order (corner (complement y) u))) (sym n ∙ sym (ap is_odd i) ∙ part_is_odd g is cov s bar a wa sa u wu l) o
          where
            bits : (b k : Bool) → cond b (not k) k ≡ true → k ≡ true → b ≡ false
            bits b k h o = grind arith

    abbrev half : Set
    half = meet s (complement y)

    half_size : count g.order (odd_at (complement y)) + 1 ≡ count g.order half
    half_size = let i = both_shores g is cov s bar a wa sa y in let j = count_split g.order s y in omega arith

    -- so what the barrier has outside y is a barrier
    half_barrier : IsBarrier g half
    unfolding odd_component_count Joined
    half_barrier =
        let k = covered_perfect g is cov in
        let i = count_mono g.order (odd_at (complement y)) (λ u. is_least g half u && is_odd (count g.order (joined g half u))) (λ u wu h. kept u wu h) in
        nearly_barrier g half k.0 is k.1 (let j = half_size in omega arith)
      where
        kept : (u : ℕ) → Within g.order u → odd_at (complement y) u ≡ true → (is_least g half u && is_odd (count g.order (joined g half u))) ≡ true
        kept u wu h =
            let l = (and_parts (is_least g s u) (is_odd (count g.order (corner (complement y) u))) h).0 in
            sym (odd_same g s half (joined g s u) is (λ v wv j. agree (s v) (y v) (joined_outside g s is u v (leads_out g s u l) j)) (closed_s l) (closed_half l h) u wu (walk_joined g s is u u wu (joined_self g s u)))
            ∙ and_from (is_least g s u) (is_odd (count g.order (joined g s u))) l (part_is_odd g is cov s bar a wa sa u wu l)
          where
            agree : (b k : Bool) → b ≡ false → b ≡ (b && not k)
            agree b k i = grind arith

            closed_s : is_least g s u ≡ true → (x z : ℕ) → joined g s u x ≡ true → adjacent g s x z ≡ true → joined g s u z ≡ true
            closed_s l x z j adj = walk_joined g s is u z wu (joined_on g s u x z (joined_walk g s u x j) (z ∷ [], (adj, refl)))

            closed_half : is_least g s u ≡ true → odd_at (complement y) u ≡ true → (x z : ℕ) → joined g s u x ≡ true → adjacent g half x z ≡ true → joined g s u z ≡ true
            closed_half l h x z j adj = true_from_ne_false (joined g s u z) (λ jz.
                let q = adjacent-edge g half x z adj in
                let o = leaves u q.2.0 x z wu l q.2.1 (has_ends-cases g x z q.2.0 q.2.2) j (outside_y u wu h x j) jz in
                both_ways (half z) q.1 (and_from (s z) (complement y z) o.0 (ap not o.1)))

    -- if it is a single vertex, some component is a gate
    half_gate : count g.order half ≡ 1 → IsNontrivial g.order y → 2 ≤ count g.order s → (w : Set) × (b : ℕ) × Gate g (complement y) w b
    half_gate one wide two = (
      joined g s u.0,
      b.0,
      record {
        within = b.1;
        tight = lead_tight g is cov s bar u.0 a u.1 u.2 wa sa;
        odd = ap is_odd (count_congr g.order (minus (joined g s u.0) (complement y)) (corner y u.0) (λ z wz. ap (λ k. joined g s u.0 z && k) (not_not (y z)))) ∙ corner_odd;
        some = member_count g.order (meet (joined g s u.0) (complement y)) v.0 v.1 (and_from (joined g s u.0 v.0) (complement y v.0) u.3 v_parts.0);
        more = member_count g.order (minus (complement (complement y)) (joined g s u.0)) q.0 q.1 (but_from (complement (complement y) q.0) (joined g s u.0 q.0) (not_not (y q.0) ∙ q_parts.1) (lead_out g is cov s bar a wa sa u.0 q.0 q_parts.0 u.2));
        out_shore = b_parts.1;
        out_set = lead_out g is cov s bar a wa sa u.0 b.0 b_parts.0 u.2;
        closed = λ e x z we ends wx px wz. let o = leaves u.0 e x z u.1 u.2 we ends wx (not-true (y x) px) wz in only_one g.order half one z b.0 (in_order e x z we ends) b.1 (and_from (s z) (complement y z) o.0 (ap not o.1)) b.2;
      },
    )
      where
        b : (v : ℕ) × Within g.order v × (half v ≡ true)
        b = count_member g.order half (omega (arith, one))

        b_parts : (s b.0 ≡ true) × (complement y b.0 ≡ true)
        b_parts = and_parts (s b.0) (complement y b.0) b.2

        swapped : count g.order (meet (complement y) s) ≡ count g.order half
        swapped = count_congr g.order (meet (complement y) s) half (λ z wz. and_comm (complement y z) (s z))

        v : (v : ℕ) × Within g.order v × (minus (complement y) s v ≡ true)
        v =
            let i = count_split g.order (complement y) s in
            let o = wide.outside in
            let k = swapped in count_member g.order (minus (complement y) s) (omega arith)

        v_parts : (complement y v.0 ≡ true) × (not (s v.0) ≡ true)
        v_parts = and_parts (complement y v.0) (not (s v.0)) v.2

        u : (u : ℕ) × Within g.order u × (is_least g s u ≡ true) × (joined g s u v.0 ≡ true)
        u = leader_of g s is v.0 v.1 (not-true (s v.0) v_parts.1)

        q : (v : ℕ) × Within g.order v × (meet s y v ≡ true)
        q = let i = count_split g.order s y in count_member g.order (meet s y) (omega (arith, one))

        q_parts : (s q.0 ≡ true) × (y q.0 ≡ true)
        q_parts = and_parts (s q.0) (y q.0) q.2

        corner_odd : is_odd (count g.order (corner y u.0)) ≡ true
        corner_odd =
            let none_odd = count_zero g.order (odd_at (complement y)) (let i = half_size in omega (arith, one)) u.0 u.1 in
            let even = and_fails_second (is_least g s u.0) (is_odd (count g.order (corner (complement y) u.0))) u.2 none_odd in
            let i = count_split g.order (joined g s u.0) y in
            let n = odd-add (count g.order (meet (joined g s u.0) y)) (count g.order (minus (joined g s u.0) y)) in
            bits (is_odd (count g.order (corner y u.0))) (is_odd (count g.order (corner (complement y) u.0))) (sym n ∙ sym (ap is_odd i) ∙ part_is_odd g is cov s bar a wa sa u.0 u.1 u.2) even
          where
            bits : (b k : Bool) → cond b (not k) k ≡ true → k ≡ false → b ≡ true
            bits b k h o = grind arith

        in_order : (e x z : ℕ) → Within (size g) e → HasEnds g e x z → Within g.order z
        in_order e x z we ends = (ends_within g is e x z we ends).1

  -- a barrier with two vertices and a nontrivial tight cut: for one shore y, in one order or the other,
  -- what the barrier has outside y is a barrier with two vertices, or some component is a gate
  pub barrier_or_gate : (x : Set) → IsTight g x → IsNontrivial g.order x → 2 ≤ count g.order s →
      Half (complement x) ⊎ Half (complement (complement x))
  barrier_or_gate x tx wide two = elim (cases_lt (count g.order (meet s x)) (count g.order (odd_at x))) [
    | inl l ↦ inl (from_full x tx wide (let i = at_most g is cov s bar a wa sa x tx in omega arith) two)
    | inr l ↦ inr (from_full (complement x) (tight-turned g x tx) (nontrivial-turned g.order x wide) (let i = at_most g is cov s bar a wa sa (complement x) (tight-turned g x tx) in let j = both_shores g is cov s bar a wa sa x in let k = count_split g.order s x in let n = less (count g.order (odd_at x)) (count g.order (meet s x)) l (not_same g is cov s bar a wa sa x tx) in omega arith) two)
  ]
    where
      less : (o n : ℕ) → o ≤ n → o ≢ n → o < n
      less o n h d = omega (arith, d)

      from_full : (y : Set) → IsTight g y → IsNontrivial g.order y → count g.order (odd_at y) ≡ count g.order (meet s y) + 1 → 2 ≤ count g.order s → Half (complement y)
      from_full y ty wide full two = elim (cases_lt 1 (count g.order (half y ty full))) [
        | inl l ↦ inl (half_barrier y ty full, omega arith)
        | inr l ↦ inr (half_gate y ty full (let i = half_size y ty full in omega arith) wide two)
      ]
