-- Each tight cut of a bipartite covered graph is the cut of a component that a barrier leaves.
-- If a tight shore X has one vertex more on the side A, X ∩ A is the barrier: without it each
-- vertex of X - A is alone, and the other shore is one component.
use Rattle.tree_check.proofs.from_counting.Common.{◌≡◌, ℕ, suc, zero, ◌+◌, ◌≤◌, Bool, true, false, ◌==◌, ◌&&◌, ◌||◌, not, refl, sym, ap, ◌∙◌, arith, subst, eq-eqb, eqb-true, inl, inr, and_from, or_cases, not-true, true≢false, false_from_ne_true, same_tests, count_congr, count_member, count_plus, odd_pos, count_mono, count_singleton, Within, count, is_odd, Set, complement, meet, minus, singleton, union}
use Rattle.barrier_kit.proofs.Common.{leader_of, part_same, few_odd_components, tight-turned, crosses_apart}
use Rattle.graph_core.proofs.Common.{IsSide, is_least, odd_component_count, IsCovered, Graph, IsGraph, first_end, in_cut, second_end, size, IsTight, Joined, joined, joined_walk, walk_joined, covered_perfect, joined_more, joined_back, joined_self}
use Rattle.quick_kinds.proofs.from_brick_kit.PairSeparations.{stays_joined}
use Rattle.quick_kinds.proofs.from_matching_digraph.Balance.{balance, leaves_left, leaves_right, none_right, other_side}
use Rattle.theorems.proofs.ConnectedShores.{tight_joined}
use Rattle.theorems.specs.Bricks.{IsBarrierCutOf}

module _ (g : Graph) (is : IsGraph g) (cov : IsCovered g) (x : Set) (t : IsTight g x) where
  module _ (a : Set) (two : IsSide g a) (more : count g.order (meet x a) ≡ count g.order (minus x a) + 1) where
    abbrev s : Set
    s = meet x a

    none_leaves : (e : ℕ) → Within (size g) e → leaves_right g is a two x e ≡ false
    none_leaves e w = none_right g is a two cov x t.cut more e w

    -- an edge of G - S leaves no vertex of X - A
    stays_alone : (u : ℕ) → minus x a u ≡ true → (e : ℕ) → Within (size g) e → s (first_end g e) ≡ false → s (second_end g e) ≡ false → in_cut g (singleton u) e ≡ false
    stays_alone u h e w p q = false_from_ne_true (in_cut g (singleton u) e) (λ c.
        go (x (first_end g e)) (a (first_end g e)) (x (second_end g e)) (a (second_end g e)) (u == first_end g e) (u == second_end g e) (two e w (crosses_apart g (singleton u) e c)) p q (none_leaves e w)
        (λ k. ap (minus x a) (sym (eqb-true u (first_end g e) k)) ∙ h) (λ k. ap (minus x a) (sym (eqb-true u (second_end g e) k)) ∙ h) c)
      where
        go : (x1 a1 x2 a2 i j : Bool) → ((a1 && not a2) || (not a1 && a2)) ≡ true → (x1 && a1) ≡ false → (x2 && a2) ≡ false → (((x1 && not a1) && (not x2 && a2)) || ((not x1 && a1) && (x2 && not a2))) ≡ false →
            (i ≡ true → (x1 && not a1) ≡ true) → (j ≡ true → (x2 && not a2) ≡ true) → ((i && not j) || (not i && j)) ≡ true → ⊥
        go x1 true x2 true i j two p q l h k c = true≢false (sym two)
        go x1 false x2 false i j two p q l h k c = true≢false (sym two)
        go true true x2 false i j two p q l h k c = true≢false p
        go false true true false i j two p q l h k c = true≢false l
        go false true false false true j two p q l h k c = true≢false (sym (h refl))
        go false true false false false true two p q l h k c = true≢false (sym (k refl))
        go false true false false false false two p q l h k c = true≢false (sym c)
        go x1 false true true i j two p q l h k c = true≢false q
        go true false false true i j two p q l h k c = true≢false l
        go false false false true true j two p q l h k c = true≢false (sym (h refl))
        go false false false true false true two p q l h k c = true≢false (sym (k refl))
        go false false false true false false two p q l h k c = true≢false (sym c)

    -- nor the other shore
    stays_outside : (e : ℕ) → Within (size g) e → s (first_end g e) ≡ false → s (second_end g e) ≡ false → in_cut g (complement x) e ≡ false
    stays_outside e w p q = false_from_ne_true (in_cut g (complement x) e) (λ c.
        go (x (first_end g e)) (a (first_end g e)) (x (second_end g e)) (a (second_end g e)) (two e w (crosses_apart g (complement x) e c)) p q (none_leaves e w) c)
      where
        go : (x1 a1 x2 a2 : Bool) → ((a1 && not a2) || (not a1 && a2)) ≡ true → (x1 && a1) ≡ false → (x2 && a2) ≡ false → (((x1 && not a1) && (not x2 && a2)) || ((not x1 && a1) && (x2 && not a2))) ≡ false →
            ((not x1 && not (not x2)) || (not (not x1) && not x2)) ≡ true → ⊥
        go x1 true x2 true two p q l c = true≢false (sym two)
        go x1 false x2 false two p q l c = true≢false (sym two)
        go true true x2 false two p q l c = true≢false p
        go false true true false two p q l c = true≢false l
        go false true false false two p q l c = true≢false (sym c)
        go x1 false true true two p q l c = true≢false q
        go true false false true two p q l c = true≢false l
        go false false false true two p q l c = true≢false (sym c)

    -- a vertex of X - A is a component
    alone : (u v : ℕ) → Within g.order u → minus x a u ≡ true → joined g s u v ≡ (u == v)
    alone u v wu h = same_tests _ _
        (λ j. stays_joined g s (singleton u) is (stays_alone u h) u v (joined_walk g s u v j) (eq-eqb u u refl))
        (λ e. walk_joined g s is u v wu (subst (Joined g s u) (eqb-true u v e) (joined_self g s u)))

    outside_s : (u : ℕ) → minus x a u ≡ true → s u ≡ false
    outside_s u h = out (x u) (a u) h
      where
        out : (p q : Bool) → (p && not q) ≡ true → (p && q) ≡ false
        out p q h = grind arith

    lone_leader : (u : ℕ) → Within g.order u → minus x a u ≡ true → (is_least g s u && is_odd (count g.order (joined g s u))) ≡ true
    lone_leader u w h =
        let l = leader_of g s is u w (outside_s u h) in
        let back = walk_joined g s is u l.0 w (joined_back g s l.0 u (joined_walk g s l.0 u l.3)) in
        let e = eqb-true u l.0 (sym (alone u l.0 w h) ∙ back) in
        and_from (is_least g s u) (is_odd (count g.order (joined g s u))) (ap (is_least g s) e ∙ l.2)
        (ap is_odd (count_congr g.order (joined g s u) (singleton u) (λ v wv. alone u v w h) ∙ count_singleton g.order u w))

    -- the other shore is a component
    other_shore : (r v : ℕ) → Within g.order r → Within g.order v → x r ≡ false → joined g s r v ≡ not (x v)
    other_shore r v wr wv xr = same_tests _ _
        (λ j. stays_joined g s (complement x) is stays_outside r v (joined_walk g s r v j) (ap not xr))
        (λ h. walk_joined g s is r v wr (joined_more g (complement (complement x)) s (λ w k. out (x w) (a w) k) r v
        (tight_joined g (complement x) r v is cov (tight-turned g x t).cut wr wv (ap not xr) h)))
      where
        out : (p q : Bool) → not (not p) ≡ false → (p && q) ≡ false
        out p q h = grind arith

    far : (r : ℕ) × Within g.order r × (complement x r ≡ true)
    far = count_member g.order (complement x) (let o = odd_pos (count g.order (complement x)) t.odd_complement in omega arith)

    far_out : x far.0 ≡ false
    far_out = not-true (x far.0) far.2

    far_s : s far.0 ≡ false
    far_s = ap (λ b. b && a far.0) far_out

    far_leader : (l : ℕ) × Within g.order l × ((is_least g s l && is_odd (count g.order (joined g s l))) ≡ true) × (minus x a l ≡ false)
    far_leader =
        let l = leader_of g s is far.0 far.1 far_s in
        let back = walk_joined g s is far.0 l.0 far.1 (joined_back g s l.0 far.0 (joined_walk g s l.0 far.0 l.3)) in
        let out : x l.0 ≡ false = not-true (x l.0) (sym (other_shore far.0 l.0 far.1 l.1 far_out) ∙ back) in (
          l.0,
          l.1,
          and_from (is_least g s l.0) (is_odd (count g.order (joined g s l.0))) l.2
              (ap is_odd (count_congr g.order (joined g s l.0) (complement x) (λ v w. part_same g s is l.0 far.0 l.1 far.1 l.3 v ∙ other_shore far.0 v far.1 w far_out)) ∙ t.odd_complement),
          ap (λ b. b && not (a l.0)) out,
        )

    enough : count g.order (minus x a) + 1 ≤ odd_component_count g s
    unfolding odd_component_count
    enough =
        let l = far_leader in
        let c = count_plus g.order (minus x a) l.0 l.1 l.3 in
        let m = count_mono g.order (union (minus x a) (singleton l.0)) (λ u. is_least g s u && is_odd (count g.order (joined g s u))) (λ u w h. elim (or_cases (minus x a u) (l.0 == u) h) [
          | inl k ↦ lone_leader u w k
          | inr k ↦ ap (λ i. is_least g s i && is_odd (count g.order (joined g s i))) (sym (eqb-true l.0 u k)) ∙ l.2
        ]) in omega arith

    pub left_barrier : IsBarrierCutOf g x s
    left_barrier = grind (arith, covered_perfect, few_odd_components, enough, far, far_s, other_shore, far_out)

  -- one side or the other has the vertex more
  pub shore_barrier : (a : Set) → IsSide g a → (r : Set) × IsBarrierCutOf g x r
  shore_barrier a two =
      let m = covered_perfect g is cov in
      let b = balance g is a two x m.0 m.1 in
      let c = t.cut m.0 m.1 in
      go (count (size g) (λ e. m.0 e && leaves_left g is a two x e)) (count (size g) (λ e. m.0 e && leaves_right g is a two x e)) b.0 (b.1 ∙ c)
    where
      double : (p q : Bool) → (p && not (not q)) ≡ (p && q)
      double p q = grind arith

      go : (l r : ℕ) → count g.order (meet x a) + r ≡ count g.order (minus x a) + l → l + r ≡ 1 → (r : Set) × IsBarrierCutOf g x r
      go (suc l) r e f = (meet x a, left_barrier a two (omega arith))
      go zero r e f = (meet x (complement a), left_barrier (complement a) (other_side g is a two) (let d : count g.order (minus x (complement a)) ≡ count g.order (meet x a) = count_congr g.order _ _ (λ v w. double (x v) (a v)) in omega arith))
