-- Perfect matchings of the graph with a vertex set made one: one edge at each vertex outside the
-- set and one in its cut. A perfect matching with one edge in the cut, without the edges inside, is
-- one; so that graph is covered if each edge is in such a matching.
use Rattle.tree_check.proofs.from_counting.Common.{◌≡◌, ◌≢◌, ℕ, ◌+◌, ◌*◌, ◌≤◌, Bool, true, false, ◌==◌, ◌&&◌, ◌||◌, not, refl, sym, ap, ap₂, ◌∙◌, arith, eq-eqb, eqb-true, List, [], ◌∷◌, subst₂, inl, inr, and_from, and_parts, both_ways, cases_Bool, cases_eq, cases_lt, count_congr, count_zero, false_from_ne_true, total_none, or_left, or_right, total_add, total_congr, true≢false, Within, bit, count, Set, none}
use Rattle.graph_core.proofs.Common.{adjacent-edge, adjacent_from, has_ends-cases, Graph, IsCovered, IsConnected, IsGraph, IsPerfect, Joined, Merges, Walk, adjacent, degree, edges_in_cut, first_end, in_cut, inside, second_end, size}
use Rattle.theorems.specs.Separating.{IsMetOnce}

-- what a perfect matching of the graph with the vertices of x made one is in g: one edge at each
-- vertex outside x, one in the cut, none inside
pub record OneSide (g : Graph) (x k : Set) : Type 0 where
  pub once : (v : ℕ) → Within g.order v → x v ≡ false → degree g k v ≡ 1
  pub cut : edges_in_cut g k x ≡ 1
  pub none_inside : (e : ℕ) → Within (size g) e → (k e && inside g x e) ≡ false

-- the graph h is g with the vertices of x made one
module _ (g : Graph) (is : IsGraph g) (x : Set) (h : Graph) (f : ℕ → ℕ) (c : ℕ) (merge : Merges g x h f c) where
  in_g : (e : ℕ) → Within (size h) e → Within (size g) e
  in_g e w = let k = merge.edges in omega arith

  in_h : (e : ℕ) → Within (size g) e → Within (size h) e
  in_h e w = let k = merge.edges in omega arith

  same_end : (u v : ℕ) → Within g.order u → Within g.order v → x v ≡ false → (f u == f v) ≡ (u == v)
  same_end u v wu wv o = grind arith

  at_c : (u : ℕ) → Within g.order u → (f u == c) ≡ x u
  at_c u wu = grind arith

  -- sums over the edges of h are sums over the edges of g
  over : (p q : ℕ → Bool) → ((e : ℕ) → Within (size g) e → p e ≡ q e) → count (size h) p ≡ count (size g) q
  over p q k = ap (λ n. count n p) merge.edges ∙ count_congr (size g) p q k

  degree_out : (k : Set) (v : ℕ) → Within g.order v → x v ≡ false → degree h k (f v) ≡ degree g k v
  degree_out k v w o = ap₂ ◌+◌
      (over _ _ (λ e we. ap (λ b. k e && b) (ap (λ y. y == f v) (merge.first_ends e we) ∙ same_end (first_end g e) v (is e we).0 w o)))
      (over _ _ (λ e we. ap (λ b. k e && b) (ap (λ y. y == f v) (merge.second_ends e we) ∙ same_end (second_end g e) v (is e we).1 w o)))

  degree_new : (k : Set) → degree h k c ≡ edges_in_cut g k x + 2 * count (size g) (λ e. k e && inside g x e)
  degree_new k =
      let a = over (λ e. k e && (first_end h e == c)) (λ e. k e && x (first_end g e)) (λ e we. ap (λ b. k e && b) (ap (λ y. y == c) (merge.first_ends e we) ∙ at_c (first_end g e) (is e we).0)) in
      let b = over (λ e. k e && (second_end h e == c)) (λ e. k e && x (second_end g e)) (λ e we. ap (λ b. k e && b) (ap (λ y. y == c) (merge.second_ends e we) ∙ at_c (second_end g e) (is e we).1)) in
      let i = total_add (size g) (λ e. bit (k e && x (first_end g e))) (λ e. bit (k e && x (second_end g e))) in
      let j = total_congr (size g) (λ e. bit (k e && x (first_end g e)) + bit (k e && x (second_end g e))) (λ e. bit (k e && in_cut g x e) + (bit (k e && inside g x e) + bit (k e && inside g x e))) (λ e w. bits (k e) (x (first_end g e)) (x (second_end g e))) in
      let l = total_add (size g) (λ e. bit (k e && in_cut g x e)) (λ e. bit (k e && inside g x e) + bit (k e && inside g x e)) in
      let m = total_add (size g) (λ e. bit (k e && inside g x e)) (λ e. bit (k e && inside g x e)) in
      omega arith
    where
      bits : (k p q : Bool) → bit (k && p) + bit (k && q) ≡ bit (k && ((p && not q) || (not p && q))) + (bit (k && (p && q)) + bit (k && (p && q)))
      bits k p q = grind arith

  one_side : (k : Set) → IsPerfect h none k → OneSide g x k
  one_side k p =
      let n = degree_new k in
      let o = p.once c merge.new refl in
      record {
        once = λ v w out. sym (degree_out k v w out) ∙ p.once (f v) (merge.outside v w out).0 refl;
        cut = omega arith;
        none_inside = count_zero (size g) (λ e. k e && inside g x e) (omega arith);
      }

  -- a perfect matching with one edge in the cut, without the edges inside x
  abbrev drop : Set → Set
  drop m e = m e && not (inside g x e)

  down : (m : Set) → IsPerfect g none m → edges_in_cut g m x ≡ 1 → IsPerfect h none (drop m)
  down m p one = record {
    once = λ w ww o. elim (cases_eq w c) [
      | inl e ↦ ap (degree h (drop m)) e ∙ new
      | inr d ↦ let r = merge.onto w ww d in ap (degree h (drop m)) (sym r.3) ∙ degree_out (drop m) r.0 r.1 r.2 ∙ at r.0 r.2 ∙ p.once r.0 r.1 refl
    ];
    away = λ w ww o. absurd (true≢false (sym o));
  }
    where
      new : degree h (drop m) c ≡ 1
      new =
          let n = degree_new (drop m) in
          let a : edges_in_cut g (drop m) x ≡ edges_in_cut g m x = count_congr (size g) _ _ (λ e w. same (m e) (x (first_end g e)) (x (second_end g e))) in
          let b : count (size g) (λ e. drop m e && inside g x e) ≡ 0 = total_none (size g) _ (λ e w. ap bit (gone (m e) (inside g x e))) in
          omega arith
        where
          same : (k p q : Bool) → ((k && not (p && q)) && ((p && not q) || (not p && q))) ≡ (k && ((p && not q) || (not p && q)))
          same k p q = grind arith

          gone : (k i : Bool) → ((k && not i) && i) ≡ false
          gone k i = grind arith

      at : (v : ℕ) → x v ≡ false → degree g (drop m) v ≡ degree g m v
      at v o = ap₂ ◌+◌
          (count_congr (size g) _ _ (λ e w. near (m e) (x (first_end g e)) (x (second_end g e)) (first_end g e == v) (λ t. ap x (eqb-true (first_end g e) v t) ∙ o)))
          (count_congr (size g) _ _ (λ e w. far (m e) (x (first_end g e)) (x (second_end g e)) (second_end g e == v) (λ t. ap x (eqb-true (second_end g e) v t) ∙ o)))
        where
          near : (k p q t : Bool) → (t ≡ true → p ≡ false) → ((k && not (p && q)) && t) ≡ (k && t)
          near k p q t i = grind arith

          far : (k p q t : Bool) → (t ≡ true → q ≡ false) → ((k && not (p && q)) && t) ≡ (k && t)
          far k p q t i = grind arith

  module _ (connected : IsConnected g) (u v : ℕ) (wu : Within g.order u) (wv : Within g.order v) (xu : x u ≡ true) (xv : x v ≡ false) where
    back : (w : ℕ) → Within h.order w → (y : ℕ) × Within g.order y × (f y ≡ w)
    back w ww = elim (cases_eq w c) [
      | inl e ↦ (u, wu, merge.inside u wu xu ∙ sym e)
      | inr e ↦ let r = merge.onto w ww e in (r.0, r.1, r.3)
    ]

    step : (s t : ℕ) → adjacent g none s t ≡ true → adjacent h none (f s) (f t) ≡ true
    step s t a =
        let e = (adjacent-edge g none s t a).2 in
        adjacent_from h none (f s) (f t) e.0 refl refl (in_h e.0 e.1) (elim (has_ends-cases g s t e.0 e.2) [
          | inl p ↦ or_left (first_end h e.0 == f s && second_end h e.0 == f t) (first_end h e.0 == f t && second_end h e.0 == f s)
              (and_from (first_end h e.0 == f s) (second_end h e.0 == f t) (eq-eqb (first_end h e.0) (f s) (merge.first_ends e.0 e.1 ∙ ap f p.0)) (eq-eqb (second_end h e.0) (f t) (merge.second_ends e.0 e.1 ∙ ap f p.1)))
          | inr p ↦ or_right (first_end h e.0 == f s && second_end h e.0 == f t) (first_end h e.0 == f t && second_end h e.0 == f s)
              (and_from (first_end h e.0 == f t) (second_end h e.0 == f s) (eq-eqb (first_end h e.0) (f t) (merge.first_ends e.0 e.1 ∙ ap f p.0)) (eq-eqb (second_end h e.0) (f s) (merge.second_ends e.0 e.1 ∙ ap f p.1)))
        ])

    walk : (s t : ℕ) (ws : List ℕ) → Walk (adjacent g none) s ws t → Joined h none (f s) (f t)
    unfolding Joined
    walk s t [] w = ([], ap f w)
    walk s t (y ∷ ws) w = let r = walk y t ws w.1 in (f y ∷ r.0, (step s y w.0, r.1))

    joined_down : IsConnected h
    unfolding Joined
    joined_down s t ws wt =
        let a = back s ws in
        let b = back t wt in
        let j = connected a.0 b.0 a.1 b.1 in
        subst₂ (λ i k. Joined h none i k) a.2 b.2 (walk a.0 b.0 j.0 j.1)

    -- so h is covered if each edge is met once
    pub covered_by_met : IsMetOnce g x → IsCovered h
    covered_by_met met = record {
      two = let r = merge.outside v wv xv in let n = merge.new in two_of (f v) c r.0 n r.1;
      connected = joined_down;
      allowed = λ e w d.
          let wg = in_g e w in
          let m = met e wg (λ q. d (merge.first_ends e wg ∙ ap f q ∙ sym (merge.second_ends e wg))) in
          let out : inside g x e ≡ false = false_from_ne_true (inside g x e) (λ t.
          let p = and_parts (x (first_end g e)) (x (second_end g e)) t in
          d (merge.first_ends e wg ∙ merge.inside (first_end g e) (is e wg).0 p.0 ∙ sym (merge.inside (second_end g e) (is e wg).1 p.1) ∙ sym (merge.second_ends e wg))) in
          (drop m.0, down m.0 m.1 m.3, rw (m.2, out) refl);
    }
      where
        two_of : (i j : ℕ) → Within h.order i → Within h.order j → i ≢ j → 2 ≤ h.order
        two_of i j wi wj d = elim (cases_lt 1 h.order) [
          | inl l ↦ l
          | inr l ↦ absurd (d (omega arith))
        ]

  -- an edge of the cut, or off x, is no loop of h
  pub allowed_by : IsCovered h → (e : ℕ) → Within (size g) e → first_end g e ≢ second_end g e → inside g x e ≡ false → (k : Set) × OneSide g x k × (k e ≡ true)
  allowed_by cov e w d out =
      let m = cov.allowed e (in_h e w) (λ q. loop (sym (merge.first_ends e w) ∙ q ∙ merge.second_ends e w)) in (m.0, one_side m.0 m.1, m.2)
    where
      loop : f (first_end g e) ≡ f (second_end g e) → ⊥
      loop q = elim (cases_Bool (x (second_end g e))) [
        | inr o ↦ d (eqb-true (first_end g e) (second_end g e) (sym (same_end (first_end g e) (second_end g e) (is e w).0 (is e w).1 o) ∙ eq-eqb (f (first_end g e)) (f (second_end g e)) q))
        | inl t ↦ elim (cases_Bool (x (first_end g e))) [
          | inl s ↦ both_ways (inside g x e) out (and_from (x (first_end g e)) (x (second_end g e)) s t)
          | inr o ↦ (merge.outside (first_end g e) (is e w).0 o).1 (q ∙ merge.inside (second_end g e) (is e w).1 t)
        ]
      ]
