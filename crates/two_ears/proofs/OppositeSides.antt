-- Deleting two vertices on opposite sides of a bipartite covered graph leaves a graph with a
-- perfect matching. Otherwise a barrier contains both; each component that it leaves is heavy on
-- one side, and no edge would lead from the one side of the barrier to the other.
use Rattle.graph_core.proofs.from_counting.Common.{◌≡◌, ℕ, ◌+◌, ◌≢◌, Bool, true, false, ◌==◌, refl, sym, ap, ap₂, ◌∙◌, arith, ◌&&◌, ◌||◌, not, eq-eqb, ne_eqb, inl, inr, and_parts, and_from, both_ways, true≢false, false_from_ne_true, bit_true, count_congr, at_le_total, some_term, total_add, total_congr, total_none, same_tests, Within, bit, count, Set, complement, meet, none}
use Rattle.barrier_kit.proofs.Common.{equivalent_barrier, perfect_or_not, crosses_apart, cut_edge, loop_free}
use Rattle.graph_core.proofs.Common.{IsSide, is_least, IsCovered, Graph, IsGraph, edges_in_cut, first_end, in_cut, inside, second_end, size, HasPerfect, IsPerfect, IsBarrier, joined, joined_outside, some_leader, adjacent_from, has_ends-own}
use Rattle.two_ears.proofs.BarrierComponents.{count_none, none_inside, one_leaves, some_perfect}
use Rattle.two_ears.proofs.ComponentCuts.{count_in}
use Rattle.two_ears.proofs.JoinedClasses.{adjacent_joined, keeps-itself, joined_equivalence}
use Rattle.two_ears.specs.VertexPairs.{set_of_pair}

-- an edge that leaves k from a vertex of a
abbrev pub leaves_from : Graph → Set → Set → ℕ → Bool
leaves_from g k a e = (k (first_end g e) && (not (k (second_end g e)) && a (first_end g e))) || (k (second_end g e) && (not (k (first_end g e)) && a (second_end g e)))

module _ (g : Graph) (is : IsGraph g) (cov : IsCovered g) (a : Set) (sides : IsSide g a) where
  -- the vertices of k on the two sides, and the edges of m that leave k from them
  pub side_count : (k m : Set) → IsPerfect g none m → count g.order (meet k a) + count (size g) (λ e. m e && leaves_from g k (complement a) e) ≡ count g.order (meet k (complement a)) + count (size g) (λ e. m e && leaves_from g k a e)
  side_count k m p =
      let x = count_in g none m (meet k a) is p (λ v w t. absurd (true≢false (sym t))) in
      let y = count_in g none m (meet k (complement a)) is p (λ v w t. absurd (true≢false (sym t))) in
      let z = count_none g.order in
      let i = total_none (size g) (λ e. bit (m e && inside g (meet k a) e)) (λ e w. ap bit (apart a e w (m e) refl (λ n. sides e w n))) in
      let j = total_none (size g) (λ e. bit (m e && inside g (meet k (complement a)) e)) (λ e w. ap bit (apart (complement a) e w (m e) refl (λ n. grind arith))) in
      let b = total_add (size g) (λ e. bit (m e && in_cut g (meet k a) e)) (λ e. bit (m e && leaves_from g k (complement a) e)) in
      let c = total_add (size g) (λ e. bit (m e && in_cut g (meet k (complement a)) e)) (λ e. bit (m e && leaves_from g k a e)) in
      let d = total_congr (size g) (λ e. bit (m e && in_cut g (meet k a) e) + bit (m e && leaves_from g k (complement a) e)) (λ e. bit (m e && in_cut g (meet k (complement a)) e) + bit (m e && leaves_from g k a e)) (λ e w. edges e w (m e) refl) in omega arith
    where
      never : (c d x y : Bool) → ((x && not y) || (not x && y)) ≡ true → ((c && x) && (d && y)) ≡ false
      never c d x y h = grind arith

      apart : (b : Set) (e : ℕ) → Within (size g) e → (t : Bool) → m e ≡ t → (first_end g e ≢ second_end g e → in_cut g b e ≡ true) → (t && inside g (meet k b) e) ≡ false
      apart b e w false q h = refl
      apart b e w true q h = never (k (first_end g e)) (k (second_end g e)) (b (first_end g e)) (b (second_end g e)) (h (loop_free g none m is p e w q))

      bits : (c d x y : Bool) → ((x && not y) || (not x && y)) ≡ true →
          bit (((c && x) && not (d && y)) || (not (c && x) && (d && y))) + bit ((c && (not d && not x)) || (d && (not c && not y)))
          ≡ bit (((c && not x) && not (d && not y)) || (not (c && not x) && (d && not y))) + bit ((c && (not d && x)) || (d && (not c && y)))
      bits c d x y h = grind arith

      edges : (e : ℕ) → Within (size g) e → (t : Bool) → m e ≡ t → bit (t && in_cut g (meet k a) e) + bit (t && leaves_from g k (complement a) e) ≡ bit (t && in_cut g (meet k (complement a)) e) + bit (t && leaves_from g k a e)
      edges e w false q = refl
      edges e w true q = bits (k (first_end g e)) (k (second_end g e)) (a (first_end g e)) (a (second_end g e)) (sides e w (loop_free g none m is p e w q))

  pub outs_leave : (k m : Set) → count (size g) (λ e. m e && leaves_from g k a e) + count (size g) (λ e. m e && leaves_from g k (complement a) e) ≡ edges_in_cut g m k
  outs_leave k m = sym (total_add (size g) (λ e. bit (m e && leaves_from g k a e)) (λ e. bit (m e && leaves_from g k (complement a) e))) ∙ total_congr (size g) _ _ (λ e w. bits (m e) (k (first_end g e)) (k (second_end g e)) (a (first_end g e)) (a (second_end g e)))
    where
      bits : (t c d x y : Bool) → bit (t && ((c && (not d && x)) || (d && (not c && y)))) + bit (t && ((c && (not d && not x)) || (d && (not c && not y)))) ≡ bit (t && ((c && not d) || (not c && d)))
      bits t c d x y = grind arith

  module _ (s : Set) (bar : IsBarrier g s) (s0 : ℕ) (w0 : Within g.order s0) (in0 : s s0 ≡ true) where
    -- a component has one edge of m that leaves it
    leaves_one : (m : Set) → IsPerfect g none m → (p : ℕ) → Within g.order p → s p ≡ false → edges_in_cut g m (joined g s p) ≡ 1
    leaves_one m pm p wp o =
        let l = some_leader g s is p wp o in
        let u = some_term g.order (λ u. bit (is_least g s u && joined g s u p)) (omega arith) in
        let b = and_parts (is_least g s u.0) (joined g s u.0 p) (bit_true (is_least g s u.0 && joined g s u.0 p) u.2) in
        let q = joined_equivalence g s is in
        let same : (v : ℕ) → Within g.order v → joined g s p v ≡ joined g s u.0 v = λ v wv. same_tests (joined g s p v) (joined g s u.0 v) (λ t. q.on u.0 p v u.1 wp wv b.1 t) (λ t. q.on p u.0 v wp u.1 wv (q.back u.0 p u.1 wp b.1) t) in
        count_congr (size g) _ _ (λ e w. ap₂ (λ c d. m e && ((c && not d) || (not c && d))) (same (first_end g e) (is e w).0) (same (second_end g e) (is e w).1)) ∙ one_leaves g is cov g.ends (keeps-itself g is) s bar s0 w0 in0 m pm u.0 u.1 b.0

    abbrev is_heavy : Set
    is_heavy p = count g.order (meet (joined g s p) a) == count g.order (meet (joined g s p) (complement a)) + 1

    -- an edge from a component to s starts on its heavy side
    starts : (e p : ℕ) → Within (size g) e → first_end g e ≢ second_end g e → Within g.order p → s p ≡ false → leaves_from g (joined g s p) (λ v. true) e ≡ true → (leaves_from g (joined g s p) a e ≡ true → is_heavy p ≡ true) × (leaves_from g (joined g s p) (complement a) e ≡ true → is_heavy p ≡ false)
    starts e p we d wp o h =
        let m = cov.allowed e we d in
        let x = side_count (joined g s p) m.0 m.1 in
        let y = outs_leave (joined g s p) m.0 in
        let z = leaves_one m.0 m.1 p wp o in (
          λ t. let i = at_le_total (size g) (λ e. bit (m.0 e && leaves_from g (joined g s p) a e)) e we in let j = ap bit (and_from (m.0 e) (leaves_from g (joined g s p) a e) m.2 t) in eq-eqb _ _ (omega arith),
          λ t. let i = at_le_total (size g) (λ e. bit (m.0 e && leaves_from g (joined g s p) (complement a) e)) e we in let j = ap bit (and_from (m.0 e) (leaves_from g (joined g s p) (complement a) e) m.2 t) in ne_eqb _ _ (λ q. absurd (omega arith)),
        )

    -- the vertices of s off a, and the components that are heavy on a
    abbrev w : Set
    w v = (s v && not (a v)) || (not (s v) && is_heavy v)

    own : (p : ℕ) → Within g.order p → joined g s p p ≡ true
    own p wp = (joined_equivalence g s is).own p wp

    off_comp : (p q : ℕ) → s p ≡ false → s q ≡ true → joined g s p q ≡ false
    off_comp p q o t = false_from_ne_true (joined g s p q) (λ j. both_ways (s q) (joined_outside g s is p q o j) t)

    none_crosses : (e : ℕ) → Within (size g) e → in_cut g w e ≡ false
    none_crosses e we = false_from_ne_true (in_cut g w e) (λ t. go t (crosses_apart g w e t) (s (first_end g e)) (s (second_end g e)) refl refl)
      where
        both_in : (x y c d : Bool) → (x && y) ≡ false → x ≡ true → y ≡ true → ⊥
        both_in x y c d h p q = both_ways (x && y) h (and_from x y p q)

        same_cross : (x y : Bool) → x ≡ y → ((x && not y) || (not x && y)) ≡ true → ⊥
        same_cross x y e h = grind arith

        w_out : (v : ℕ) → s v ≡ false → w v ≡ is_heavy v
        w_out v t = plain (s v) (a v) (is_heavy v) t
          where
            plain : (x y z : Bool) → x ≡ false → ((x && not y) || (not x && z)) ≡ z
            plain x y z h = grind arith

        go : in_cut g w e ≡ true → first_end g e ≢ second_end g e → (x y : Bool) → s (first_end g e) ≡ x → s (second_end g e) ≡ y → ⊥
        go t d true true p q = both_in (s (first_end g e)) (s (second_end g e)) true true (none_inside g is cov g.ends (keeps-itself g is) s bar s0 w0 in0 e we d) p q
        go t d false false p q =
            let j = adjacent_joined g s is (first_end g e) (second_end g e) (adjacent_from g s (first_end g e) (second_end g e) e p q we (has_ends-own g e)) in
            let eq = joined_equivalence g s is in
            let wn = (is e we).0 in
            let wf = (is e we).1 in
            let same : (v : ℕ) → Within g.order v → joined g s (first_end g e) v ≡ joined g s (second_end g e) v = λ v wv. same_tests (joined g s (first_end g e) v) (joined g s (second_end g e) v) (λ i. eq.on (second_end g e) (first_end g e) v wf wn wv (eq.back (first_end g e) (second_end g e) wn wf j) i) (λ i. eq.on (first_end g e) (second_end g e) v wn wf wv j i) in
            let x = count_congr g.order (meet (joined g s (first_end g e)) a) (meet (joined g s (second_end g e)) a) (λ v wv. ap (λ c. c && a v) (same v wv)) in
            let y = count_congr g.order (meet (joined g s (first_end g e)) (complement a)) (meet (joined g s (second_end g e)) (complement a)) (λ v wv. ap (λ c. c && not (a v)) (same v wv)) in
            same_cross (w (first_end g e)) (w (second_end g e)) (w_out (first_end g e) p ∙ ap₂ (λ c d. c == d + 1) x y ∙ sym (w_out (second_end g e) q)) t
        go t d false true p q =
            let k = own (first_end g e) (is e we).0 in
            let l = off_comp (first_end g e) (second_end g e) p q in
            let r = starts e (first_end g e) we d (is e we).0 p (grind arith) in
            grind arith
        go t d true false p q =
            let k = own (second_end g e) (is e we).1 in
            let l = off_comp (second_end g e) (first_end g e) q p in
            let r = starts e (second_end g e) we d (is e we).1 q (grind arith) in
            grind arith

    pub one_side : (z : ℕ) → Within g.order z → s z ≡ true → a s0 ≡ true → a z ≡ false → ⊥
    one_side z wz tz a0 az =
        let e = cut_edge g w z s0 is cov wz w0 (grind arith) (out_w (s s0) (a s0) (is_heavy s0) in0 a0) in
        both_ways (in_cut g w e.0) (none_crosses e.0 e.1) e.2
      where
        out_w : (x y c : Bool) → x ≡ true → y ≡ true → ((x && not y) || (not x && c)) ≡ false
        out_w x y c p q = grind arith

  -- two vertices on opposite sides serve
  pub opposite : (x z : ℕ) → Within g.order x → Within g.order z → a x ≡ true → a z ≡ false → HasPerfect g (set_of_pair (x, z))
  opposite x z wx wz ax az = elim (perfect_or_not g (set_of_pair (x, z))) [
    | inl m ↦ m
    | inr no_match ↦
        let m = some_perfect g is cov in
        let b = equivalent_barrier g m.0 x z is m.1 wx wz (λ e. both_ways (a z) az (ap a (sym e) ∙ ax)) no_match in
        absurd (one_side b.0 b.1 x wx b.2 z wz b.3 ax az)
  ]
