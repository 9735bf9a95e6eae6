-- A barrier of a covered graph to which no edges are added: each component it leaves is odd, and
-- each perfect matching has one edge that leaves the component. A part of a barrier leaves at most
-- as many components as it has vertices, and if two parts leave as many, so does their
-- intersection.
use Rattle.graph_core.proofs.from_counting.Common.{◌≡◌, ℕ, suc, zero, ◌+◌, ◌*◌, ◌≤◌, ◌≢◌, Bool, true, false, refl, sym, ap, ◌∙◌, arith, ◌&&◌, ◌||◌, not, inl, inr, nat_lt, lt-ltb, List, same_tests, cases_Bool, and_parts, and_from, both_ways, true≢false, false_from_ne_true, not-true, count_meet_union, bit_true, count_congr, count_le_one, some_none, some_true, at_le_total, total_add, total_congr, total_le, total_mul, total_none, total_tight, Within, bit, count, is_odd, Set, meet, none, singleton, union, some}
use Rattle.barrier_kit.proofs.Common.{cut_edge, crosses_apart, loop_free}
use Rattle.graph_core.proofs.Common.{joined_outside, walk_joined, component_count, is_least, odd_component_count, IsCovered, Graph, IsGraph, edges_in_cut, first_end, in_cut, inside, second_end, size, with_ends, Allowed, IsPerfect, IsBarrier, Joined, joined}
use Rattle.two_ears.proofs.ComponentCuts.{arms, component_out, count_in, cut_sum, odd_at_most, odd_leaving, odd_needs, weighted_cut}
use Rattle.two_ears.proofs.JoinedClasses.{adjacent_joined, keeps-itself, joined_equivalence, joined_more, submodular}
use Rattle.two_ears.specs.AddedEdges.{KeepsEdges}

pub count_none : (n : ℕ) → count n none ≡ 0
count_none n = total_none n _ (λ v w. refl)

module _ (g : Graph) (is : IsGraph g) (cov : IsCovered g) where
  allowed_edge : (e : ℕ) → Within (size g) e → first_end g e ≢ second_end g e → Allowed g e
  allowed_edge e w d = cov.allowed e w d

  pub some_perfect : (m : Set) × IsPerfect g none m
  some_perfect =
      let t = cov.two in
      let e = cut_edge g (singleton 1) 1 2 is cov (omega arith) (omega arith) refl refl in
      let a = allowed_edge e.0 e.1 (crosses_apart g (singleton 1) e.0 e.2) in (a.0, a.1)

  module _ (xs : List (ℕ × ℕ)) (h : KeepsEdges g xs) (b : Set) (bar : odd_component_count (with_ends g xs) b ≡ count g.order b) (b0 : ℕ) (w0 : Within g.order b0) (in0 : b b0 ≡ true) where
    cut_all : (m : Set) → IsPerfect g none m → (edges_in_cut g m b ≡ count g.order b) × (count (size g) (λ e. m e && inside g b e) ≡ 0)
    cut_all m p =
        let a = odd_at_most g xs none m b is h p (λ v w t. absurd (true≢false (sym t))) in
        let c = count_in g none m b is p (λ v w t. absurd (true≢false (sym t))) in
        let z = count_none g.order in (omega arith, omega arith)

    -- no edge lies in the barrier
    pub none_inside : (e : ℕ) → Within (size g) e → first_end g e ≢ second_end g e → inside g b e ≡ false
    none_inside e w d = false_from_ne_true (inside g b e) (λ t.
        let a = allowed_edge e w d in
        let c = at_le_total (size g) (λ e. bit (a.0 e && inside g b e)) e w in
        let z = (cut_all a.0 a.1).1 in
        let i = ap bit (and_from (a.0 e) (inside g b e) a.2 t) in absurd (omega arith))

    terms : (m : Set) → IsPerfect g none m → (u : ℕ) → Within g.order u → bit (is_least (with_ends g xs) b u && is_odd (count g.order (joined (with_ends g xs) b u))) ≡ bit (is_least (with_ends g xs) b u) * edges_in_cut g m (joined (with_ends g xs) b u)
    unfolding odd_component_count
    terms m p u w = sym (total_tight g.order _ _ (odd_needs g xs none m b is h p (λ v w t. absurd (true≢false (sym t)))) (let a = cut_sum g xs b m is h in let c = (cut_all m p).0 in omega (arith, bar)) u w)

    own : (u : ℕ) → Within g.order u → joined (with_ends g xs) b u u ≡ true
    own u w = (joined_equivalence (with_ends g xs) b h.graph).own u w

    -- each component is odd
    pub all_odd : (u : ℕ) → Within g.order u → is_least (with_ends g xs) b u ≡ true → is_odd (count g.order (joined (with_ends g xs) b u)) ≡ true
    all_odd u w l =
        let e = cut_edge g (joined (with_ends g xs) b u) u b0 is cov w w0 (own u w) (false_from_ne_true (joined (with_ends g xs) b u b0) (λ k. both_ways (b b0) (component_out (with_ends g xs) b u b0 h.graph l k) in0)) in
        let a = allowed_edge e.0 e.1 (crosses_apart g (joined (with_ends g xs) b u) e.0 e.2) in
        let c = at_le_total (size g) (λ e. bit (a.0 e && in_cut g (joined (with_ends g xs) b u) e)) e.0 e.1 in
        let i = ap bit (and_from (a.0 e.0) (in_cut g (joined (with_ends g xs) b u) e.0) a.2 e.2) in
        let t = terms a.0 a.1 u w in
        let one : bit (is_least (with_ends g xs) b u) ≡ 1 = ap bit l in
        let q = ap (λ k. k * edges_in_cut g a.0 (joined (with_ends g xs) b u)) one in
        (and_parts (is_least (with_ends g xs) b u) (is_odd (count g.order (joined (with_ends g xs) b u))) (bit_true (is_least (with_ends g xs) b u && is_odd (count g.order (joined (with_ends g xs) b u))) (omega arith))).1

    -- each perfect matching has one edge that leaves a component
    pub one_leaves : (m : Set) → IsPerfect g none m → (u : ℕ) → Within g.order u → is_least (with_ends g xs) b u ≡ true → edges_in_cut g m (joined (with_ends g xs) b u) ≡ 1
    one_leaves m p u w l =
        let t = terms m p u w in
        let o = all_odd u w l in
        let i = ap bit (and_from (is_least (with_ends g xs) b u) (is_odd (count g.order (joined (with_ends g xs) b u))) l o) in
        let one : bit (is_least (with_ends g xs) b u) ≡ 1 = ap bit l in
        let q = ap (λ k. k * edges_in_cut g m (joined (with_ends g xs) b u)) one in omega arith

    pub all_components : component_count (with_ends g xs) b ≡ count g.order b
    unfolding component_count odd_component_count
    all_components = count_congr g.order _ _ (λ u w. each u w) ∙ bar
      where
        each : (u : ℕ) → Within g.order u → is_least (with_ends g xs) b u ≡ (is_least (with_ends g xs) b u && is_odd (count g.order (joined (with_ends g xs) b u)))
        each u w = same_tests (is_least (with_ends g xs) b u) _ (λ t. and_from (is_least (with_ends g xs) b u) _ t (all_odd u w t)) (λ t. (and_parts (is_least (with_ends g xs) b u) _ t).0)

  module _ (s : Set) (bar : IsBarrier g s) (xs : List (ℕ × ℕ)) (h : KeepsEdges g xs) (a : Set) (less : (v : ℕ) → Within g.order v → a v ≡ true → s v ≡ true)
      (a0 : ℕ) (w0 : Within g.order a0) (in0 : a a0 ≡ true) where
    -- the components of g - s in one of x without a: one for each vertex of s in it, and one for
    -- each edge of m that leaves it
    pub exact : (u : ℕ) → Within g.order u → a u ≡ false → (m : Set) → IsPerfect g none m →
        count g.order (λ w. is_least g s w && joined (with_ends g xs) a u w) ≡ count g.order (λ v. joined (with_ends g xs) a u v && s v) + edges_in_cut g m (joined (with_ends g xs) a u)
    exact u wu ou m p =
        total_congr g.order _ _ (λ w ww. one w ww (is_least g s w && k w) (λ t. (and_parts (is_least g s w) (k w) t).0))
        ∙ weighted_cut g g.ends s k m is (keeps-itself g is) closed
        ∙ total_congr (size g) _ _ (λ e we. edges e we (m e) refl)
        ∙ total_add (size g) (λ e. bit (m e && in_cut g (meet k s) e)) (λ e. bit (m e && in_cut g k e))
        ∙ ap (λ c. c + edges_in_cut g m k) (sym inner)
      where
        k : Set
        k = joined (with_ends g xs) a u

        eq : (v t : ℕ) → Within g.order v → Within g.order t → joined (with_ends g xs) a v t ≡ true → k v ≡ k t
        eq v t wv wt j = let q = joined_equivalence (with_ends g xs) a h.graph in same_tests (k v) (k t) (λ i. q.on u v t wu wv wt i j) (λ i. q.on u t v wu wt wv i (q.back v t wv wt j))

        closed : (v t : ℕ) → Within g.order v → Within g.order t → joined g s v t ≡ true → k v ≡ k t
        closed v t wv wt j = eq v t wv wt (joined_more g xs s a is h less v t wv wt j)

        one : (w : ℕ) → Within g.order w → (b : Bool) → (b ≡ true → is_least g s w ≡ true) → bit b ≡ bit b * edges_in_cut g m (joined g s w)
        one w ww false f = omega arith
        one w ww true f = let c = one_leaves g.ends (keeps-itself g is) s bar a0 w0 (less a0 w0 in0) m p w ww (f refl) in omega arith

        apart : (e : ℕ) → Within (size g) e → m e ≡ true → (s (first_end g e) && s (second_end g e)) ≡ false
        apart e we me = none_inside g.ends (keeps-itself g is) s bar a0 w0 (less a0 w0 in0) e we (loop_free g none m is p e we me)

        and_false : (c d x y : Bool) → (x && y) ≡ false → ((c && x) && (d && y)) ≡ false
        and_false c d x y e = grind arith

        not_both : (e : ℕ) → Within (size g) e → (b : Bool) → m e ≡ b → (b && inside g (meet k s) e) ≡ false
        not_both e we false t = refl
        not_both e we true t = and_false (k (first_end g e)) (k (second_end g e)) (s (first_end g e)) (s (second_end g e)) (apart e we t)

        inner : count g.order (meet k s) ≡ edges_in_cut g m (meet k s)
        inner =
            let c = count_in g none m (meet k s) is p (λ v w t. absurd (true≢false (sym t))) in
            let z = count_none g.order in
            let i = total_none (size g) (λ e. bit (m e && inside g (meet k s) e)) (λ e we. ap bit (not_both e we (m e) refl)) in omega arith

        out : (v : ℕ) → k v ≡ true → a v ≡ false
        out v t = joined_outside (with_ends g xs) a h.graph u v ou t

        s_out : (v : ℕ) → Within g.order v → s v ≡ false → a v ≡ false
        s_out v w o = false_from_ne_true (a v) (λ t. both_ways (s v) o (less v w t))

        along : (e : ℕ) → Within (size g) e → a (first_end g e) ≡ false → a (second_end g e) ≡ false → k (first_end g e) ≡ k (second_end g e)
        along e we c d = eq (first_end g e) (second_end g e) (is e we).0 (is e we).1 (adjacent_joined (with_ends g xs) a h.graph (first_end g e) (second_end g e) (and_from (not (a (first_end g e)) && not (a (second_end g e))) _ (rw (c, d) refl) (h.old e we)))

        bits : (c d x y : Bool) → (x && y) ≡ false → (x ≡ false → y ≡ false → c ≡ d) → (x ≡ true → y ≡ false → c ≡ true → d ≡ true) → (x ≡ false → y ≡ true → d ≡ true → c ≡ true) →
            bit ((c && (not x && y)) || (d && (not y && x))) ≡ bit (((c && x) && not (d && y)) || (not (c && x) && (d && y))) + bit ((c && not d) || (not c && d))
        bits c d x y h i k l = grind arith

        edges : (e : ℕ) → Within (size g) e → (b : Bool) → m e ≡ b → bit (b && arms g s k e) ≡ bit (b && in_cut g (meet k s) e) + bit (b && in_cut g k e)
        edges e we false t = refl
        edges e we true t = bits (k (first_end g e)) (k (second_end g e)) (s (first_end g e)) (s (second_end g e)) (apart e we t)
            (λ x y. along e we (s_out (first_end g e) (is e we).0 x) (s_out (second_end g e) (is e we).1 y))
            (λ x y t. sym (along e we (out (first_end g e) t) (s_out (second_end g e) (is e we).1 y)) ∙ t)
            (λ x y t. along e we (s_out (first_end g e) (is e we).0 x) (out (second_end g e) t) ∙ t)

    -- each perfect matching has an edge that leaves a component of x without a
    pub some_leaves : (u : ℕ) → Within g.order u → is_least (with_ends g xs) a u ≡ true → (m : Set) → IsPerfect g none m → 1 ≤ edges_in_cut g m (joined (with_ends g xs) a u)
    some_leaves u w l m p =
        let own = (joined_equivalence (with_ends g xs) a h.graph).own u w in
        let e = cut_edge g (joined (with_ends g xs) a u) u a0 is cov w w0 own (false_from_ne_true (joined (with_ends g xs) a u a0) (λ k. both_ways (a a0) (component_out (with_ends g xs) a u a0 h.graph l k) in0)) in
        let c = allowed_edge e.0 e.1 (crosses_apart g (joined (with_ends g xs) a u) e.0 e.2) in
        let d = at_le_total (size g) (λ e. bit (c.0 e && in_cut g (joined (with_ends g xs) a u) e)) e.0 e.1 in
        let i = ap bit (and_from (c.0 e.0) (in_cut g (joined (with_ends g xs) a u) e.0) c.2 e.2) in
        let o = component_out (with_ends g xs) a u u h.graph l own in
        let x = exact u w o m p in
        let y = exact u w o c.0 c.1 in omega arith

    -- components without a are few, and even ones count twice
    pub few_components : 2 * component_count (with_ends g xs) a ≤ count g.order a + odd_component_count (with_ends g xs) a
    unfolding component_count odd_component_count
    few_components =
        let m = some_perfect in
        let t = total_le g.order (λ u. 2 * bit (is_least (with_ends g xs) a u)) _ (λ u w. each m.0 m.1 u w (is_least (with_ends g xs) a u) (is_odd (count g.order (joined (with_ends g xs) a u))) refl refl) in
        let i = total_mul g.order 2 (λ u. bit (is_least (with_ends g xs) a u)) in
        let j = total_add g.order (λ u. bit (is_least (with_ends g xs) a u) * edges_in_cut g m.0 (joined (with_ends g xs) a u)) (λ u. bit (is_least (with_ends g xs) a u && is_odd (count g.order (joined (with_ends g xs) a u)))) in
        let c = cut_sum g xs a m.0 is h in
        let d = count_in g none m.0 a is m.1 (λ v w t. absurd (true≢false (sym t))) in
        let z = count_none g.order in omega arith
      where
        at_least : (k : ℕ) → 1 ≤ k → is_odd k ≡ false → 2 ≤ k
        at_least zero l o = absurd (omega arith)
        at_least (suc zero) l o = absurd (true≢false o)
        at_least (suc (suc k)) l o = omega arith

        each : (m : Set) → IsPerfect g none m → (u : ℕ) → Within g.order u → (x y : Bool) → is_least (with_ends g xs) a u ≡ x → is_odd (count g.order (joined (with_ends g xs) a u)) ≡ y →
            2 * bit x ≤ bit x * edges_in_cut g m (joined (with_ends g xs) a u) + bit (x && y)
        each m p u w false y e f = omega arith
        each m p u w true true e f = let c = some_leaves u w e m p in omega arith
        each m p u w true false e f =
            let c = some_leaves u w e m p in
            let d = odd_leaving g none m (joined (with_ends g xs) a u) is p (λ v wv k. refl) in
            let i = at_least (edges_in_cut g m (joined (with_ends g xs) a u)) c (sym d ∙ f) in omega arith

    pub no_more_components : component_count (with_ends g xs) a ≤ count g.order a
    unfolding component_count odd_component_count
    no_more_components = let f = few_components in let o = total_le g.order _ (λ u. bit (is_least (with_ends g xs) a u)) (λ u w. bits (is_least (with_ends g xs) a u) (is_odd (count g.order (joined (with_ends g xs) a u)))) in omega arith
      where
        bits : (x y : Bool) → bit (x && y) ≤ bit x
        bits x y = grind arith

  -- without vertices removed there is one component
  pub connected_one : (xs : List (ℕ × ℕ)) → KeepsEdges g xs → (a : Set) → ((v : ℕ) → Within g.order v → a v ≡ false) → component_count (with_ends g xs) a ≤ 1
  unfolding component_count Joined
  connected_one xs h a empty = count_le_one g.order (is_least (with_ends g xs) a) (λ u v wu wv l lu lv.
      let j = joined_more g xs none a is h (λ w ww t. absurd (both_ways (a w) (empty w ww) t)) v u wv wu (walk_joined g none is v u wv (cov.connected v u wv wu)) in
      let f = not-true (some g.order (λ w. joined (with_ends g xs) a v w && nat_lt w v)) (and_parts (not (a v)) (not (some g.order (λ w. joined (with_ends g xs) a v w && nat_lt w v))) lv).1 in
      both_ways (joined (with_ends g xs) a v u && nat_lt u v) (some_none g.order (λ w. joined (with_ends g xs) a v w && nat_lt w v) f u wu) (and_from (joined (with_ends g xs) a v u) (nat_lt u v) j (lt-ltb u v l)))

  module _ (s : Set) (bar : IsBarrier g s) (xs : List (ℕ × ℕ)) (h : KeepsEdges g xs) (apart : (e : ℕ) → Within (size (with_ends g xs)) e → first_end (with_ends g xs) e ≢ second_end (with_ends g xs) e → (s (first_end (with_ends g xs) e) && s (second_end (with_ends g xs) e)) ≡ false)
      (a b : Set) (less_a : (v : ℕ) → Within g.order v → a v ≡ true → s v ≡ true) (less_b : (v : ℕ) → Within g.order v → b v ≡ true → s v ≡ true) where
    both_less : (v : ℕ) → Within g.order v → union a b v ≡ true → s v ≡ true
    both_less v w t = elim (Rattle.std.proofs.lemmas.Bool.or_cases (a v) (b v) t) [ inl x ↦ less_a v w x | inr x ↦ less_b v w x ]

    meet_less : (v : ℕ) → Within g.order v → meet a b v ≡ true → s v ≡ true
    meet_less v w t = less_a v w (and_parts (a v) (b v) t).0

    -- sets that leave as many components as they have vertices: so does their meet, if it has a
    -- vertex
    pub meet_full : component_count (with_ends g xs) a ≡ count g.order a → component_count (with_ends g xs) b ≡ count g.order b → (c : ℕ) → Within g.order c → a c ≡ true → b c ≡ true → component_count (with_ends g xs) (meet a b) ≡ count g.order (meet a b)
    meet_full fa fb c wc ac bc =
        let i = submodular (with_ends g xs) s a b h.graph apart less_a less_b in
        let j = no_more_components s bar xs h (union a b) both_less c wc (Rattle.std.proofs.lemmas.Bool.or_left (a c) (b c) ac) in
        let k = no_more_components s bar xs h (meet a b) meet_less c wc (and_from (a c) (b c) ac bc) in
        let n = count_meet_union g.order a b in omega arith

    -- and a union lacks at most one component more
    pub unite_parts : (p : ℕ) → count g.order a + 1 ≤ component_count (with_ends g xs) a + p → component_count (with_ends g xs) b ≡ count g.order b → count g.order (union a b) + 1 ≤ component_count (with_ends g xs) (union a b) + (p + 1)
    unite_parts p fa fb =
        let i = submodular (with_ends g xs) s a b h.graph apart less_a less_b in
        let n = count_meet_union g.order a b in
        let m = at_most_one in omega arith
      where
        at_most_one : component_count (with_ends g xs) (meet a b) ≤ count g.order (meet a b) + 1
        at_most_one = elim (cases_Bool (some g.order (meet a b))) [
          | inl t ↦ let c = some_true g.order (meet a b) t in let k = no_more_components s bar xs h (meet a b) meet_less c.0 c.1 c.2 in omega arith
          | inr f ↦ let k = connected_one xs h (meet a b) (λ v w. some_none g.order (meet a b) f v w) in omega arith
        ]
