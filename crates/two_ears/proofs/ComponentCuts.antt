-- The edges of a matching that leave the components of G - B, component by component: together they
-- are those that leave B, and an odd component has one.
use Rattle.graph_core.proofs.from_counting.Common.{◌≡◌, ℕ, ◌+◌, ◌*◌, ◌≤◌, Bool, true, false, cond, refl, sym, ap, ◌∙◌, arith, ◌&&◌, ◌||◌, not, nat_lt, le_trans, le_of_eq, List, same_tests, and_parts, and_from, both_ways, false_from_ne_true, not-true, odd-add, odd-double, odd_pos, total_add, total_congr, total_le, total_mul, total_none, total_swap, Within, bit, count, is_odd, total, Set, some}
use Rattle.graph_core.proofs.Common.{joined_outside, one_leader, some_leader, degrees, is_least, odd_component_count, Graph, IsGraph, degree, edges_in_cut, first_end, in_cut, inside, second_end, size, with_ends, IsPerfect, joined}
use Rattle.two_ears.proofs.JoinedClasses.{adjacent_joined, joined_equivalence}
use Rattle.two_ears.specs.AddedEdges.{KeepsEdges}

-- of the leaders in a union w of components one leads a vertex p of w
pub leader_sum : (x : Graph) (b w : Set) → IsGraph x → ((u v : ℕ) → Within x.order u → Within x.order v → joined x b u v ≡ true → w u ≡ w v) → (p : ℕ) → Within x.order p → b p ≡ false →
    total x.order (λ u. bit ((is_least x b u && w u) && joined x b u p)) ≡ bit (w p)
leader_sum x b w is same p wp o =
    total_congr x.order _ _ (λ u wu. bits (is_least x b u) (w u) (joined x b u p) (w p) (same u p wu wp))
    ∙ total_mul x.order (bit (w p)) (λ u. bit (is_least x b u && joined x b u p))
    ∙ (let i = one_leader x b is p wp in let j = some_leader x b is p wp o in let e : count x.order (λ u. is_least x b u && joined x b u p) ≡ 1 = omega arith in ap (λ k. bit (w p) * k) e ∙ (omega arith))
  where
    bits : (l a j c : Bool) → (j ≡ true → a ≡ c) → bit ((l && a) && j) ≡ bit c * bit (l && j)
    bits l a j c h = grind arith

-- an edge from a vertex of w outside b to b
abbrev pub arms : Graph → Set → Set → ℕ → Bool
arms g b w e = (w (first_end g e) && (not (b (first_end g e)) && b (second_end g e))) || (w (second_end g e) && (not (b (second_end g e)) && b (first_end g e)))

-- the edges of m that leave the components of w, component by component
pub weighted_cut : (g : Graph) (xs : List (ℕ × ℕ)) (b w m : Set) → IsGraph g → KeepsEdges g xs → ((u v : ℕ) → Within g.order u → Within g.order v → joined (with_ends g xs) b u v ≡ true → w u ≡ w v) →
    total g.order (λ u. bit (is_least (with_ends g xs) b u && w u) * edges_in_cut g m (joined (with_ends g xs) b u)) ≡ count (size g) (λ e. m e && arms g b w e)
weighted_cut g xs b w m is h same =
    total_congr g.order _ _ (λ u wu. sym (total_mul (size g) (bit (is_least (with_ends g xs) b u && w u)) (λ e. bit (m e && in_cut g (joined (with_ends g xs) b u) e))))
    ∙ total_swap g.order (size g) (λ u e. bit (is_least (with_ends g xs) b u && w u) * bit (m e && in_cut g (joined (with_ends g xs) b u) e))
    ∙ total_congr (size g) _ _ (λ e we. each e we (m e))
  where
    l : ℕ → Bool
    l = is_least (with_ends g xs) b

    j : ℕ → ℕ → Bool
    j = joined (with_ends g xs) b

    out_of : (u v : ℕ) → l u ≡ true → j u v ≡ true → b v ≡ false
    out_of u v t k = joined_outside (with_ends g xs) b h.graph u v (not-true (b u) (and_parts (not (b u)) (not (some g.order (λ v. j u v && nat_lt v u))) t).0) k

    sides : (e : ℕ) → Within (size g) e → b (first_end g e) ≡ false → b (second_end g e) ≡ false → j (first_end g e) (second_end g e) ≡ true
    sides e we p q = adjacent_joined (with_ends g xs) b h.graph (first_end g e) (second_end g e) (and_from (not (b (first_end g e)) && not (b (second_end g e))) _ (rw (p, q) refl) (h.old e we))

    none_cut : (c d : Bool) → 0 ≡ bit ((c && false) || (d && false))
    none_cut c d = grind arith

    each : (e : ℕ) → Within (size g) e → (k : Bool) → total g.order (λ u. bit (l u && w u) * bit (k && ((j u (first_end g e) && not (j u (second_end g e))) || (not (j u (first_end g e)) && j u (second_end g e))))) ≡ bit (k && arms g b w e)
    each e we false = total_none g.order _ (λ u wu. omega arith)
    each e we true = go (b (first_end g e)) (b (second_end g e)) refl refl
      where
        eq : (u v t : ℕ) → Within g.order u → Within g.order v → Within g.order t → j v t ≡ true → j u v ≡ j u t
        eq u v t wu wv wt k = let q = joined_equivalence (with_ends g xs) b h.graph in same_tests (j u v) (j u t) (λ a. q.on u v t wu wv wt a k) (λ a. q.on u t v wu wt wv a (q.back v t wv wt k))

        term : (u : ℕ) → ℕ
        term u = bit (l u && w u) * bit ((j u (first_end g e) && not (j u (second_end g e))) || (not (j u (first_end g e)) && j u (second_end g e)))

        never : (s t c d : Bool) → (s ≡ true → c ≡ d) → bit (s && t) * bit ((c && not d) || (not c && d)) ≡ 0
        never s t c d f = grind arith

        fore : (s t c d : Bool) → (s ≡ true → d ≡ false) → bit (s && t) * bit ((c && not d) || (not c && d)) ≡ bit ((s && t) && c)
        fore s t c d f = grind arith

        aft : (s t c d : Bool) → (s ≡ true → c ≡ false) → bit (s && t) * bit ((c && not d) || (not c && d)) ≡ bit ((s && t) && d)
        aft s t c d f = grind arith

        go : (x y : Bool) → b (first_end g e) ≡ x → b (second_end g e) ≡ y → total g.order (λ u. term u) ≡ bit ((w (first_end g e) && (not x && y)) || (w (second_end g e) && (not y && x)))
        go true true p q = total_none g.order _ (λ u wu. never (l u) (w u) (j u (first_end g e)) (j u (second_end g e)) (λ t.
            false_from_ne_true (j u (first_end g e)) (λ k. both_ways (b (first_end g e)) (out_of u (first_end g e) t k) p) ∙ sym (false_from_ne_true (j u (second_end g e)) (λ k. both_ways (b (second_end g e)) (out_of u (second_end g e) t k) q)))) ∙ none_cut (w (first_end g e)) (w (second_end g e))
        go false false p q = total_none g.order _ (λ u wu. never (l u) (w u) (j u (first_end g e)) (j u (second_end g e)) (λ t. eq u (first_end g e) (second_end g e) wu (is e we).0 (is e we).1 (sides e we p q))) ∙ none_cut (w (first_end g e)) (w (second_end g e))
        go false true p q =
            total_congr g.order _ _ (λ u wu. fore (l u) (w u) (j u (first_end g e)) (j u (second_end g e)) (λ t. false_from_ne_true (j u (second_end g e)) (λ k. both_ways (b (second_end g e)) (out_of u (second_end g e) t k) q)))
            ∙ leader_sum (with_ends g xs) b w h.graph same (first_end g e) (is e we).0 p
            ∙ grind arith
        go true false p q =
            total_congr g.order _ _ (λ u wu. aft (l u) (w u) (j u (first_end g e)) (j u (second_end g e)) (λ t. false_from_ne_true (j u (first_end g e)) (λ k. both_ways (b (first_end g e)) (out_of u (first_end g e) t k) p)))
            ∙ leader_sum (with_ends g xs) b w h.graph same (second_end g e) (is e we).1 q
            ∙ grind arith

-- all components
pub cut_sum : (g : Graph) (xs : List (ℕ × ℕ)) (b m : Set) → IsGraph g → KeepsEdges g xs → total g.order (λ u. bit (is_least (with_ends g xs) b u) * edges_in_cut g m (joined (with_ends g xs) b u)) ≡ edges_in_cut g m b
cut_sum g xs b m is h =
    total_congr g.order _ _ (λ u wu. ap (λ t. bit t * edges_in_cut g m (joined (with_ends g xs) b u)) (and_yes (is_least (with_ends g xs) b u)))
    ∙ weighted_cut g xs b (λ v. true) m is h (λ u v wu wv t. refl)
    ∙ total_congr (size g) _ _ (λ e we. ap (λ t. bit (m e && t)) (turn (b (first_end g e)) (b (second_end g e))))
  where
    and_yes : (a : Bool) → a ≡ (a && true)
    and_yes true = refl
    and_yes false = refl

    turn : (c d : Bool) → ((true && (not c && d)) || (true && (not d && c))) ≡ ((c && not d) || (not c && d))
    turn c d = grind arith

-- a set of vertices that m meets once each: its size and the edges that leave it are odd together
pub odd_leaving : (g : Graph) (r m k : Set) → IsGraph g → IsPerfect g r m → ((v : ℕ) → Within g.order v → k v ≡ true → r v ≡ false) → is_odd (count g.order k) ≡ is_odd (edges_in_cut g m k)
odd_leaving g r m k is p out = ap is_odd (total_congr g.order _ _ (λ v w. each v w (k v) refl) ∙ degrees g is m k) ∙ drop_even (edges_in_cut g m k) (count (size g) (λ e. m e && inside g k e))
  where
    each : (v : ℕ) → Within g.order v → (b : Bool) → k v ≡ b → bit b ≡ bit b * degree g m v
    each v w true e = omega (arith, p.once v w (out v w e))
    each v w false e = omega arith

    drop_even : (a c : ℕ) → is_odd (a + 2 * c) ≡ is_odd a
    drop_even a c = let e : a + 2 * c ≡ a + (c + c) = omega arith in ap is_odd e ∙ odd-add a (c + c) ∙ ap (λ t. cond (is_odd a) (not t) t) (odd-double c) ∙ same (is_odd a)
      where
        same : (b : Bool) → cond b true false ≡ b
        same true = refl
        same false = refl

-- b holds r: the vertices of b are those of r, the edges that leave it, and two for each edge
-- inside
pub count_in : (g : Graph) (r m b : Set) → IsGraph g → IsPerfect g r m → ((v : ℕ) → Within g.order v → r v ≡ true → b v ≡ true) → count g.order b ≡ count g.order r + (edges_in_cut g m b + 2 * count (size g) (λ e. m e && inside g b e))
count_in g r m b is p less = total_congr g.order _ _ (λ v w. each v w (r v) (b v) refl refl) ∙ total_add g.order (λ v. bit (r v)) (λ v. bit (b v) * degree g m v) ∙ ap (λ k. count g.order r + k) (degrees g is m b)
  where
    each : (v : ℕ) → Within g.order v → (x y : Bool) → r v ≡ x → b v ≡ y → bit y ≡ bit x + bit y * degree g m v
    each v w true true e f = omega (arith, p.away v w e)
    each v w true false e f = absurd (both_ways (b v) f (less v w e))
    each v w false true e f = omega (arith, p.once v w e)
    each v w false false e f = omega arith

-- a leader's component, vertex by vertex, is outside what was removed
pub component_out : (x : Graph) (b : Set) (u v : ℕ) → IsGraph x → is_least x b u ≡ true → joined x b u v ≡ true → b v ≡ false
component_out x b u v is t k = joined_outside x b is u v (not-true (b u) (and_parts (not (b u)) (not (some x.order (λ v. joined x b u v && nat_lt v u))) t).0) k

module _ (g : Graph) (xs : List (ℕ × ℕ)) (r m b : Set) (is : IsGraph g) (h : KeepsEdges g xs) (p : IsPerfect g r m) (less : (v : ℕ) → Within g.order v → r v ≡ true → b v ≡ true) where
  -- an odd component has an edge of m that leaves it
  pub odd_needs : (u : ℕ) → Within g.order u → bit (is_least (with_ends g xs) b u && is_odd (count g.order (joined (with_ends g xs) b u))) ≤ bit (is_least (with_ends g xs) b u) * edges_in_cut g m (joined (with_ends g xs) b u)
  odd_needs u w = go (is_least (with_ends g xs) b u) (is_odd (count g.order (joined (with_ends g xs) b u))) refl refl
    where
      go : (s t : Bool) → is_least (with_ends g xs) b u ≡ s → is_odd (count g.order (joined (with_ends g xs) b u)) ≡ t → bit (s && t) ≤ bit s * edges_in_cut g m (joined (with_ends g xs) b u)
      go false t e f = omega arith
      go true false e f = omega arith
      go true true e f =
          let a = odd_leaving g r m (joined (with_ends g xs) b u) is p (λ v wv k. false_from_ne_true (r v) (λ i. both_ways (b v) (component_out (with_ends g xs) b u v h.graph e k) (less v wv i))) in
          let c = odd_pos (edges_in_cut g m (joined (with_ends g xs) b u)) (sym a ∙ f) in omega arith

  -- the odd components are no more than the edges of m that leave b
  pub odd_at_most : odd_component_count (with_ends g xs) b ≤ edges_in_cut g m b
  unfolding odd_component_count
  odd_at_most = le_trans (total_le g.order _ _ odd_needs) (le_of_eq (cut_sum g xs b m is h))

  pub odd_need : odd_component_count (with_ends g xs) b + count g.order r ≤ count g.order b
  odd_need = let a = odd_at_most in let c = count_in g r m b is p less in omega arith
