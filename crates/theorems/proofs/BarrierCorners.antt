-- A barrier S and a tight cut of a covered graph. Each component of G - S is odd, so it has an odd
-- number of vertices in one of the two shores. Counted by the edges of a perfect matching, one shore
-- has one such component fewer than vertices of S, and the other one more.
-- Used by: HalfBarriers.
use Rattle.tree_check.proofs.from_counting.Common.{◌≡◌, ◌≢◌, ℕ, suc, zero, ◌+◌, ◌*◌, ◌≤◌, Bool, true, false, ◌&&◌, ◌||◌, not, refl, sym, ap, ◌∙◌, arith, cond, odd-add, odd-double, odd_total, count_split, count_zero, total_congr, total_add, total_le, total_mul, total_none, total_swap, total_tight, Within, bit, count, is_odd, total, Set, none, minus, meet, complement}
use Rattle.barrier_kit.proofs.Common.{cuts_met, inner, leads_out, many_parts, odd_part, part_out, part_step, sat_inside}
use Rattle.graph_core.proofs.Common.{covered_perfect, one_leader, some_leader, odd_meets, parity, is_least, Graph, IsCovered, IsGraph, IsBarrier, IsPerfect, IsTight, edges_in_cut, first_end, in_cut, inside, second_end, size, joined}

module _ (g : Graph) (is : IsGraph g) (cov : IsCovered g) (s : Set) (bar : IsBarrier g s) (a : ℕ) (wa : Within g.order a) (sa : s a ≡ true) where
  pub part_is_odd : (u : ℕ) → Within g.order u → is_least g s u ≡ true → is_odd (count g.order (joined g s u)) ≡ true
  part_is_odd u wu l = odd_part g is (cuts_met g is cov) s bar u a wu l wa sa

  one_of : (v : ℕ) → Within g.order v → s v ≡ false → count g.order (λ u. is_least g s u && joined g s u v) ≡ 1
  one_of v wv o = let i = one_leader g s is v wv in let j = some_leader g s is v wv o in omega arith

  pub lead_out : (u v : ℕ) → s v ≡ true → is_least g s u ≡ true → joined g s u v ≡ false
  lead_out u v sv l = part_out g s u v is (leads_out g s u l) sv

  module _ (y : Set) where
    abbrev pub corner : ℕ → Set
    corner u = meet (joined g s u) y

    abbrev pub odd_at : Set
    odd_at u = is_least g s u && is_odd (count g.order (corner u))

    -- the cuts of the corners add up to the cut of the shore without the barrier
    corner_edge : (e : ℕ) → Within (size g) e → total g.order (λ u. bit (is_least g s u) * bit (in_cut g (corner u) e)) ≡ bit (in_cut g (minus y s) e)
    corner_edge e we = go (s (first_end g e)) (s (second_end g e)) refl refl
      where
        x : ℕ
        x = first_end g e

        z : ℕ
        z = second_end g e

        scaled : (b : Bool) (v : ℕ) → Within g.order v → s v ≡ false → total g.order (λ u. bit b * bit (is_least g s u && joined g s u v)) ≡ bit b
        scaled b v wv o = let i = one_of v wv o in total_mul g.order (bit b) (λ u. bit (is_least g s u && joined g s u v)) ∙ ap (λ k. bit b * k) i ∙ omega arith

        both_in : (l p q c d : Bool) → (l ≡ true → p ≡ false) → (l ≡ true → q ≡ false) → bit l * bit (((p && c) && not (q && d)) || (not (p && c) && (q && d))) ≡ 0
        both_in l p q c d h i = grind arith

        both_out : (l p q c d : Bool) → p ≡ q → bit l * bit (((p && c) && not (q && d)) || (not (p && c) && (q && d))) ≡ bit ((c && not d) || (not c && d)) * bit (l && p)
        both_out l p q c d h = grind arith

        first_in : (l p q c d : Bool) → (l ≡ true → p ≡ false) → bit l * bit (((p && c) && not (q && d)) || (not (p && c) && (q && d))) ≡ bit d * bit (l && q)
        first_in l p q c d h = grind arith

        second_in : (l p q c d : Bool) → (l ≡ true → q ≡ false) → bit l * bit (((p && c) && not (q && d)) || (not (p && c) && (q && d))) ≡ bit c * bit (l && p)
        second_in l p q c d h = grind arith

        ends : (c d i j : Bool) (k l : Bool) → i ≡ k → j ≡ l → bit ((c && not k) && not (d && not l) || not (c && not k) && (d && not l)) ≡ bit ((c && not i) && not (d && not j) || not (c && not i) && (d && not j))
        ends c d i j k l p q = grind arith

        go : (i j : Bool) → s x ≡ i → s z ≡ j → total g.order (λ u. bit (is_least g s u) * bit (in_cut g (corner u) e)) ≡ bit (in_cut g (minus y s) e)
        go true true i j = total_none g.order _ (λ u wu. both_in (is_least g s u) (joined g s u x) (joined g s u z) (y x) (y z) (lead_out u x i) (lead_out u z j)) ∙ sides (y x) (y z) (s x) (s z) i j
          where
            sides : (c d k l : Bool) → k ≡ true → l ≡ true → 0 ≡ bit (((c && not k) && not (d && not l)) || (not (c && not k) && (d && not l)))
            sides c d k l p q = grind arith
        go false false i j = total_congr g.order _ _ (λ u wu. both_out (is_least g s u) (joined g s u x) (joined g s u z) (y x) (y z) (part_step g s u e is wu we i j)) ∙ scaled ((y x && not (y z)) || (not (y x) && y z)) x (is e we).0 i ∙ sides (y x) (y z) (s x) (s z) i j
          where
            sides : (c d k l : Bool) → k ≡ false → l ≡ false → bit ((c && not d) || (not c && d)) ≡ bit (((c && not k) && not (d && not l)) || (not (c && not k) && (d && not l)))
            sides c d k l p q = grind arith
        go true false i j = total_congr g.order _ _ (λ u wu. first_in (is_least g s u) (joined g s u x) (joined g s u z) (y x) (y z) (lead_out u x i)) ∙ scaled (y z) z (is e we).1 j ∙ sides (y x) (y z) (s x) (s z) i j
          where
            sides : (c d k l : Bool) → k ≡ true → l ≡ false → bit d ≡ bit (((c && not k) && not (d && not l)) || (not (c && not k) && (d && not l)))
            sides c d k l p q = grind arith
        go false true i j = total_congr g.order _ _ (λ u wu. second_in (is_least g s u) (joined g s u x) (joined g s u z) (y x) (y z) (lead_out u z j)) ∙ scaled (y x) x (is e we).0 i ∙ sides (y x) (y z) (s x) (s z) i j
          where
            sides : (c d k l : Bool) → k ≡ false → l ≡ true → bit c ≡ bit (((c && not k) && not (d && not l)) || (not (c && not k) && (d && not l)))
            sides c d k l p q = grind arith

    corner_sum : (m : Set) → total g.order (λ u. bit (is_least g s u) * edges_in_cut g m (corner u)) ≡ edges_in_cut g m (minus y s)
    corner_sum m =
        total_congr g.order _ _ (λ u w. sym (total_mul (size g) (bit (is_least g s u)) (λ e. bit (m e && in_cut g (corner u) e))))
        ∙ total_swap g.order (size g) (λ u e. bit (is_least g s u) * bit (m e && in_cut g (corner u) e))
        ∙ total_congr (size g) _ _ (λ e w. each e w (m e))
      where
        each : (e : ℕ) → Within (size g) e → (k : Bool) → total g.order (λ u. bit (is_least g s u) * bit (k && in_cut g (corner u) e)) ≡ bit (k && in_cut g (minus y s) e)
        each e w true = corner_edge e w
        each e w false = total_none g.order (λ u. bit (is_least g s u) * 0) (λ u x. omega arith)

    module _ (m : Set) (p : IsPerfect g none m) where
      at_least : (u : ℕ) → Within g.order u → bit (odd_at u) ≤ bit (is_least g s u) * edges_in_cut g m (corner u)
      at_least u w = grind (arith, odd_meets)

      odd_edges : (x : Set) → is_odd (count g.order x) ≡ is_odd (edges_in_cut g m x)
      odd_edges x =
          let k = inner g m x in
          let e : count g.order x ≡ edges_in_cut g m x + (k + k) = omega (arith, parity g is m x p) in
          ap is_odd e ∙ odd-add (edges_in_cut g m x) (k + k) ∙ settle (is_odd (edges_in_cut g m x)) (is_odd (k + k)) (odd-double k)
        where
          settle : (b k : Bool) → k ≡ false → cond b (not k) k ≡ b
          settle b k h = grind arith

      -- as many corners are odd as edges of m are in that cut, but for an even number
      same_oddness : is_odd (count g.order odd_at) ≡ is_odd (edges_in_cut g m (minus y s))
      same_oddness = odd_total g.order (λ u. bit (odd_at u)) (λ u. bit (is_least g s u) * edges_in_cut g m (corner u)) (λ u w. each u (is_least g s u)) ∙ ap is_odd (corner_sum m)
        where
          of_bit : (b : Bool) → is_odd (bit b) ≡ b
          of_bit true = refl
          of_bit false = refl

          each : (u : ℕ) (l : Bool) → is_odd (bit (l && is_odd (count g.order (corner u)))) ≡ is_odd (bit l * edges_in_cut g m (corner u))
          each u true = let q : edges_in_cut g m (corner u) ≡ 1 * edges_in_cut g m (corner u) = omega arith in of_bit (is_odd (count g.order (corner u))) ∙ odd_edges (corner u) ∙ ap is_odd q
          each u false = let q : 0 ≡ 0 * edges_in_cut g m (corner u) = omega arith in ap is_odd q

      fewer : count g.order odd_at ≤ edges_in_cut g m (minus y s)
      fewer = let i = total_le g.order (λ u. bit (odd_at u)) (λ u. bit (is_least g s u) * edges_in_cut g m (corner u)) at_least in let j = corner_sum m in omega arith

      -- the edges of m in the cut of y whose end in y is in the barrier, and those whose end is not
      abbrev pub from_s : Set
      from_s e = m e && (((y (first_end g e) && s (first_end g e)) && not (y (second_end g e))) || ((y (second_end g e) && s (second_end g e)) && not (y (first_end g e))))

      abbrev beside_s : Set
      beside_s e = m e && (((y (first_end g e) && not (s (first_end g e))) && not (y (second_end g e))) || ((y (second_end g e) && not (s (second_end g e))) && not (y (first_end g e))))

      no_inner : (e : ℕ) → Within (size g) e → (m e && inside g s e) ≡ false
      no_inner e we = count_zero (size g) (λ e. m e && inside g s e) (sat_inside g is s bar m p) e we

      balance : edges_in_cut g m (minus y s) + count (size g) from_s ≡ count g.order (meet s y) + count (size g) beside_s
      balance =
          let i = total_add (size g) (λ e. bit (m e && in_cut g (minus y s) e)) (λ e. bit (from_s e)) in
          let j = total_add (size g) (λ e. bit (m e && in_cut g (meet s y) e)) (λ e. bit (beside_s e)) in
          let k = total_congr (size g) (λ e. bit (m e && in_cut g (minus y s) e) + bit (from_s e)) (λ e. bit (m e && in_cut g (meet s y) e) + bit (beside_s e)) (λ e we. bits (m e) (y (first_end g e)) (y (second_end g e)) (s (first_end g e)) (s (second_end g e)) (no_inner e we)) in
          let l = parity g is m (meet s y) p in
          let n = total_none (size g) (λ e. bit (m e && inside g (meet s y) e)) (λ e we. none_in (m e) (y (first_end g e)) (y (second_end g e)) (s (first_end g e)) (s (second_end g e)) (no_inner e we)) in
          omega arith
        where
          bits : (k c d i j : Bool) → (k && (i && j)) ≡ false →
              bit (k && (((c && not i) && not (d && not j)) || (not (c && not i) && (d && not j)))) + bit (k && (((c && i) && not d) || ((d && j) && not c)))
              ≡ bit (k && (((i && c) && not (j && d)) || (not (i && c) && (j && d)))) + bit (k && (((c && not i) && not d) || ((d && not j) && not c)))
          bits k c d i j h = grind arith

          none_in : (k c d i j : Bool) → (k && (i && j)) ≡ false → bit (k && ((i && c) && (j && d))) ≡ 0
          none_in k c d i j h = grind arith

      one_edge : IsTight g y → count (size g) from_s + count (size g) beside_s ≡ 1
      one_edge t =
          let i = total_add (size g) (λ e. bit (from_s e)) (λ e. bit (beside_s e)) in
          let j = total_congr (size g) (λ e. bit (from_s e) + bit (beside_s e)) (λ e. bit (m e && in_cut g y e)) (λ e we. bits (m e) (y (first_end g e)) (y (second_end g e)) (s (first_end g e)) (s (second_end g e))) in
          let k = t.cut m p in omega arith
        where
          bits : (k c d i j : Bool) → bit (k && (((c && i) && not d) || ((d && j) && not c))) + bit (k && (((c && not i) && not d) || ((d && not j) && not c))) ≡ bit (k && ((c && not d) || (not c && d)))
          bits k c d i j = grind arith

    pub at_most : IsTight g y → count g.order odd_at ≤ count g.order (meet s y) + 1
    at_most t =
        let k = covered_perfect g is cov in
        let i = balance k.0 k.1 in
        let j = one_edge k.0 k.1 t in
        let l = fewer k.0 k.1 in omega arith

    pub not_same : IsTight g y → count g.order odd_at ≢ count g.order (meet s y)
    not_same t e =
        let k = covered_perfect g is cov in
        let i = balance k.0 k.1 in
        let j = one_edge k.0 k.1 t in
        let l = same_oddness k.0 k.1 in
        go (count (size g) (from_s k.0 k.1)) (edges_in_cut g k.0 (minus y s)) (count g.order (meet s y)) (count (size g) (beside_s k.0 k.1)) i j (sym (ap is_odd e) ∙ l)
      where
        flip : (b : Bool) → b ≡ not b → ⊥
        flip b h = grind arith

        go : (f c n b : ℕ) → c + f ≡ n + b → f + b ≡ 1 → is_odd n ≡ is_odd c → ⊥
        go zero c n b i j l = let q : c ≡ suc n = omega arith in flip (is_odd n) (l ∙ ap is_odd q)
        go (suc f) c n b i j l = let q : n ≡ suc c = omega arith in flip (is_odd c) (sym l ∙ ap is_odd q)

  -- each component has an odd number of vertices in one of the two shores
  pub both_shores : (y : Set) → count g.order (odd_at y) + count g.order (odd_at (complement y)) ≡ count g.order s
  both_shores y =
      sym (total_add g.order (λ u. bit (odd_at y u)) (λ u. bit (odd_at (complement y) u)))
      ∙ total_congr g.order _ _ (λ u wu. each u wu (is_least g s u) refl)
      ∙ many_parts g is (cuts_met g is cov) s bar a wa sa
    where
      each : (u : ℕ) → Within g.order u → (l : Bool) → is_least g s u ≡ l → bit (l && is_odd (count g.order (corner y u))) + bit (l && is_odd (count g.order (corner (complement y) u))) ≡ bit l
      each u wu false i = refl
      each u wu true i =
          let o = part_is_odd u wu i in
          let k = count_split g.order (joined g s u) y in
          let n = odd-add (count g.order (meet (joined g s u) y)) (count g.order (minus (joined g s u) y)) in
          bits (is_odd (count g.order (corner y u))) (is_odd (count g.order (corner (complement y) u))) (sym n ∙ sym (ap is_odd k) ∙ o)
        where
          bits : (b k : Bool) → cond b (not k) k ≡ true → bit b + bit k ≡ 1
          bits b k h = grind arith

  -- the shore y has one odd corner more than vertices of the barrier
  module _ (y : Set) (ty : IsTight g y) (full : count g.order (odd_at y) ≡ count g.order (meet s y) + 1) where
    pub corner_cut : (m : Set) → IsPerfect g none m → (u : ℕ) → Within g.order u → bit (is_least g s u) * edges_in_cut g m (corner y u) ≡ bit (odd_at y u)
    corner_cut m p =
        let i = balance y m p in
        let j = one_edge y m p ty in
        let k = corner_sum y m in
        total_tight g.order (λ u. bit (is_least g s u) * edges_in_cut g m (corner y u)) (λ u. bit (odd_at y u)) (at_least y m p) (omega arith)

    pub none_from_s : (m : Set) (p : IsPerfect g none m) → count (size g) (from_s y m p) ≡ 0
    none_from_s m p =
        let i = balance y m p in
        let j = one_edge y m p ty in
        let k = fewer y m p in omega arith
