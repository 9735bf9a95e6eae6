-- A set on one side of a bipartite graph and its neighbours: each perfect matching has as many
-- edges in the cut of both together as there are neighbours more; and a nontrivial tight shore,
-- or the other one, is a set on a side with one vertex more of its neighbours' side.
use Rattle.tree_check.proofs.from_counting.Common.{◌≡◌, ℕ, suc, zero, ◌+◌, ◌≤◌, Bool, true, false, ◌&&◌, ◌||◌, not, refl, sym, ap, ◌∙◌, arith, and_from, and_parts, both_ways, false_from_ne_true, not-true, and_comm, count_congr, count_meet_union, count_split, some_true, true_some, total_none, Within, bit, count, Set, complement, meet, minus, none, union}
use Rattle.barrier_kit.proofs.Common.{nontrivial-turned, tight-turned, cut_split, cut_matching}
use Rattle.graph_core.proofs.Common.{IsSide, IsCovered, Graph, IsMultigraph, edges_in_cut, first_end, has_ends, second_end, size, IsPerfect, IsNontrivial, IsTight, adjacent, covered_perfect, adjacent-edge, adjacent_from, has_ends-back, has_ends-own}
use Rattle.quick_kinds.proofs.from_matching_digraph.Balance.{balance, equal_sides, leaves_left, leaves_right, none_right, other_side, side_count}
use Rattle.quick_kinds.proofs.from_matching_digraph.TightShores.{at_ends}
use Rattle.theorems.specs.Braces.{neighbourhood}

-- a neighbour has an edge to a vertex of the set
pub neighbour_edge : (g : Graph) (s : Set) (v : ℕ) → neighbourhood g s v ≡ true → (u e : ℕ) × Within g.order u × (s u ≡ true) × Within (size g) e × (has_ends g u v e ≡ true)
neighbour_edge g s v h = grind (arith, some_true, adjacent, none, and_parts, adjacent-edge)

-- and an edge from a vertex of the set leads to a neighbour
pub edge_neighbour : (g : Graph) (s : Set) (u v e : ℕ) → Within g.order u → s u ≡ true → Within (size g) e → has_ends g u v e ≡ true → neighbourhood g s v ≡ true
edge_neighbour g s u v e wu su w h = true_some g.order (λ u. s u && adjacent g none u v) u wu (and_from (s u) (adjacent g none u v) su (adjacent_from g none u v e refl refl w h))

-- a nontrivial tight shore z with one vertex more off the side a; no edge leaves it at the side
pub record Leaning (g : Graph) (a z : Set) : Type 0 where
  pub tight : IsTight g z
  pub nontrivial : IsNontrivial g.order z
  pub more : count g.order (minus z a) ≡ count g.order (meet z a) + 1
  pub some_in : 1 ≤ count g.order (meet z a)
  pub some_out : count g.order (meet z a) + 2 ≤ count g.order a
  pub closed : (u v e : ℕ) → Within (size g) e → has_ends g u v e ≡ true → z u ≡ true → a u ≡ true → z v ≡ true

module _ (g : Graph) (is : IsMultigraph g) (a : Set) (two : IsSide g a) where
  -- the ends of an edge are on different sides
  pub ends_cross : (u v e : ℕ) → Within (size g) e → has_ends g u v e ≡ true → a u ≡ not (a v)
  ends_cross u v e w h = grind arith

  module _ (s : Set) (sub : (v : ℕ) → s v ≡ true → a v ≡ true) where
    abbrev near : Set
    near = neighbourhood g s

    pub near_side : (v : ℕ) → near v ≡ true → complement a v ≡ true
    near_side v h = let e = neighbour_edge g s v h in sym (ends_cross e.0 v e.1 e.4 e.5) ∙ sub e.0 e.3

    near_apart : (v : ℕ) → s v ≡ true → near v ≡ false
    near_apart v h = false_from_ne_true (near v) (λ n. both_ways (a v) (not-true (a v) (near_side v n)) (sub v h))

    into : (e : ℕ) → Within (size g) e → (s (first_end g e) ≡ true → near (second_end g e) ≡ true) × (s (second_end g e) ≡ true → near (first_end g e) ≡ true)
    into e w = (
      (λ h. edge_neighbour g s (first_end g e) (second_end g e) e (is.ends e w).0 h w (has_ends-own g e)),
      (λ h. edge_neighbour g s (second_end g e) (first_end g e) e (is.ends e w).1 h w (has_ends-back g (first_end g e) (second_end g e) e (has_ends-own g e))),
    )

    -- neighbours, vertices and the cut of both
    pub near_count : (m : Set) → IsPerfect g none m → count g.order near ≡ count g.order s + edges_in_cut g m (union s near)
    near_count m p =
        let c = cut_split g m s near (λ e w t. into e w) (λ e w. (near_apart (first_end g e), near_apart (second_end g e))) in
        let i = side_count g is.ends a s m two sub p in
        let j = side_count g is.ends (complement a) near m (other_side g is.ends a two) near_side p in omega arith

    pub near_out : (v : ℕ) → a v ≡ true → s v ≡ false → union s near v ≡ false
    near_out v av sv = out (s v) (near v) sv (false_from_ne_true (near v) (λ n. both_ways (a v) (not-true (a v) (near_side v n)) av))
      where
        out : (p q : Bool) → p ≡ false → q ≡ false → (p || q) ≡ false
        out p q h k = grind arith

    pub both_count : count g.order (union s near) ≡ count g.order s + count g.order near
    both_count =
        let c = count_meet_union g.order s near in
        let z : count g.order (meet s near) ≡ 0 = total_none g.order _ (λ v w. ap bit (none_both (s v) (near v) (near_apart v))) in omega arith
      where
        none_both : (p q : Bool) → (p ≡ true → q ≡ false) → (p && q) ≡ false
        none_both p q h = grind arith

    -- a set that is neither empty nor the whole side has a neighbour more
    pub surplus : IsCovered g → (u v : ℕ) → Within g.order u → Within g.order v → s u ≡ true → a v ≡ true → s v ≡ false → count g.order s + 1 ≤ count g.order near
    surplus cov u v wu wv su av sv =
        let m = cut_matching g (union s near) u v is.ends cov wu wv (ap (λ k. k || near u) su) (near_out v av sv) in
        let c = near_count m.0 m.1 in let k = m.2 in omega arith

  module _ (cov : IsCovered g) where
    lean : (z : Set) → IsTight g z → IsNontrivial g.order z → count g.order (minus z a) ≡ count g.order (meet z a) + 1 → Leaning g a z
    lean z t wide more =
        let i = count_split g.order z a in
        let j = count_split g.order a z in
        let k = count_split g.order (complement a) z in
        let l = count_split g.order (complement z) a in
        let half = equal_sides g is.ends a two cov in
        let p : count g.order (meet a z) ≡ count g.order (meet z a) = count_congr g.order _ _ (λ v w. and_comm (a v) (z v)) in
        let q : count g.order (minus a z) ≡ count g.order (meet (complement z) a) = count_congr g.order _ _ (λ v w. and_comm (a v) (not (z v))) in
        let r : count g.order (meet (complement a) z) ≡ count g.order (minus z a) = count_congr g.order _ _ (λ v w. and_comm (not (a v)) (z v)) in
        let s : count g.order (minus (complement a) z) ≡ count g.order (minus (complement z) a) = count_congr g.order _ _ (λ v w. and_comm (not (a v)) (not (z v))) in
        let inside = wide.inside in
        let outside = wide.outside in
        record { tight = t; nontrivial = wide; more = more; some_in = omega arith; some_out = omega arith; closed = closed }
      where
        double : (p q : Bool) → (p && not (not q)) ≡ (p && q)
        double p q = grind arith

        more' : count g.order (meet z (complement a)) ≡ count g.order (minus z (complement a)) + 1
        more' = let d : count g.order (minus z (complement a)) ≡ count g.order (meet z a) = count_congr g.order _ _ (λ v w. double (z v) (a v)) in omega arith

        stays : (e : ℕ) → Within (size g) e → (z (first_end g e) ≡ true → a (first_end g e) ≡ true → z (second_end g e) ≡ true) × (z (second_end g e) ≡ true → a (second_end g e) ≡ true → z (first_end g e) ≡ true)
        stays e w =
            let n = none_right g is.ends (complement a) (other_side g is.ends a two) cov z t.cut more' e w in
            let c = two e w (is.no_loop e w) in
            (go (z (first_end g e)) (a (first_end g e)) (z (second_end g e)) (a (second_end g e)) c n, back (z (first_end g e)) (a (first_end g e)) (z (second_end g e)) (a (second_end g e)) c n)
          where
            go : (z1 a1 z2 a2 : Bool) → ((a1 && not a2) || (not a1 && a2)) ≡ true → (((z1 && not (not a1)) && (not z2 && not a2)) || ((not z1 && not a1) && (z2 && not (not a2)))) ≡ false → z1 ≡ true → a1 ≡ true → z2 ≡ true
            go z1 a1 z2 a2 h i k l = grind arith

            back : (z1 a1 z2 a2 : Bool) → ((a1 && not a2) || (not a1 && a2)) ≡ true → (((z1 && not (not a1)) && (not z2 && not a2)) || ((not z1 && not a1) && (z2 && not (not a2)))) ≡ false → z2 ≡ true → a2 ≡ true → z1 ≡ true
            back z1 a1 z2 a2 h i k l = grind arith

        closed : (u v e : ℕ) → Within (size g) e → has_ends g u v e ≡ true → z u ≡ true → a u ≡ true → z v ≡ true
        closed u v e w h = (at_ends g (λ s t. (z s ≡ true → a s ≡ true → z t ≡ true) × (z t ≡ true → a t ≡ true → z s ≡ true)) u v e (λ s t p. (p.1, p.0)) h (stays e w)).0

    -- one shore of a nontrivial tight cut leans so
    pub leaning : (x : Set) → IsTight g x → IsNontrivial g.order x → (z : Set) × Leaning g a z
    leaning x t wide =
        let m = covered_perfect g is.ends cov in
        let b = balance g is.ends a two x m.0 m.1 in
        let c = t.cut m.0 m.1 in
        go (count (size g) (λ e. m.0 e && leaves_left g is.ends a two x e)) (count (size g) (λ e. m.0 e && leaves_right g is.ends a two x e)) b.0 (b.1 ∙ c)
      where
        go : (l r : ℕ) → count g.order (meet x a) + r ≡ count g.order (minus x a) + l → l + r ≡ 1 → (z : Set) × Leaning g a z
        go zero r e f = (x, lean x t wide (omega arith))
        go (suc l) r e f = (
          complement x,
          lean (complement x) (tight-turned g x t) (nontrivial-turned g.order x wide) (
              let half = equal_sides g is.ends a two cov in
              let j = count_split g.order a x in
              let k = count_split g.order (complement a) x in
              let p : count g.order (meet a x) ≡ count g.order (meet x a) = count_congr g.order _ _ (λ v w. and_comm (a v) (x v)) in
              let q : count g.order (minus a x) ≡ count g.order (meet (complement x) a) = count_congr g.order _ _ (λ v w. and_comm (a v) (not (x v))) in
              let i : count g.order (meet (complement a) x) ≡ count g.order (minus x a) = count_congr g.order _ _ (λ v w. and_comm (not (a v)) (x v)) in
              let s : count g.order (minus (complement a) x) ≡ count g.order (minus (complement x) a) = count_congr g.order _ _ (λ v w. and_comm (not (a v)) (not (x v))) in omega arith),
        )
