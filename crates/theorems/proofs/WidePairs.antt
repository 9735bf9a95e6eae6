-- A bipartite graph has no cut pair if on both sides each small set has two neighbours more than
-- vertices. What two vertices part it into has vertices on both sides, since a vertex has three
-- neighbours; and of one side the parts have few enough, so that the other side has to have more
-- vertices than it.
use Rattle.tree_check.proofs.from_counting.Common.{◌≡◌, ℕ, ◌+◌, ◌≤◌, Bool, true, false, ◌==◌, ◌&&◌, ◌||◌, not, refl, sym, ap, ◌∙◌, arith, eq-eqb, eqb-true, inl, inr, and_parts, but_from, cases_lt, count_complement, count_congr, count_meet_union, count_member, count_mono, count_singleton, count_split, false_from_ne_true, member_count, or_left, two_of, Within, count, Set, complement, meet, minus, none, pair_set, singleton, union}
use Rattle.barrier_kit.proofs.Common.{leader_same, leads_out, part_step}
use Rattle.graph_core.proofs.Common.{joined_outside, joined_self, walk_joined, component_count, is_least, Graph, HasOnlyTrivialTightCuts, HasPerfect, IsConnected, IsCovered, IsCutPair, IsMultigraph, IsSide, first_end, has_ends, joined, second_end, size}
use Rattle.quick_kinds.proofs.from_matching_digraph.Balance.{equal_sides, other_side}
use Rattle.theorems.proofs.ExtendableCuts.{extendable_brick, extendable_uncut}
use Rattle.theorems.proofs.Neighbourhoods.{near_side, neighbour_edge}
use Rattle.theorems.proofs.Quotients.{bipartite-or}
use Rattle.theorems.proofs.ThreeConnected.{count_pair, pair_or_three}
use Rattle.theorems.proofs.WideNeighbourhoods.{wide_or_tight}
use Rattle.theorems.specs.Braces.{HasWideNeighbourhoods, IsTwoExtendable, neighbourhood}
use Rattle.theorems.specs.Bricks.{IsThreeConnected}

-- the vertex sets r and k, where no edge leaves k but to r
pub record IsPartBeside (g : Graph) (r k : Set) : Type 0 where
  pub out : (w : ℕ) → k w ≡ true → r w ≡ false
  pub keeps : (e : ℕ) → Within (size g) e → r (first_end g e) ≡ false → r (second_end g e) ≡ false → k (first_end g e) ≡ k (second_end g e)

-- and so is what is neither in r nor in k
rest_beside : (g : Graph) (r k : Set) → IsPartBeside g r k → IsPartBeside g r (minus (complement r) k)
rest_beside g r k part = grind arith

-- a side b whose small sets have two neighbours more
module _ (g : Graph) (is : IsMultigraph g) (b : Set) (two : IsSide g b) (wide : HasWideNeighbourhoods g b) (r k : Set) (part : IsPartBeside g r k) where
  stays : (s w e : ℕ) → Within (size g) e → has_ends g s w e ≡ true → k s ≡ true → r w ≡ false → k w ≡ true
  stays s w e we h ks rw = grind arith

  -- neighbours of vertices that the part has on the side are in the part or in r
  near_part : (s : Set) → ((w : ℕ) → s w ≡ true → meet k b w ≡ true) → count g.order (neighbourhood g s) ≤ count g.order (minus k b) + count g.order (minus r b)
  near_part s sub =
      let c = count_mono g.order (neighbourhood g s) (union (minus k b) (minus r b)) (λ w ww h.
      let e = neighbour_edge g s w h in
      let p = and_parts (k e.0) (b e.0) (sub e.0 e.3) in
      let off = near_side g is b two s (λ v i. (and_parts (k v) (b v) (sub v i)).1) w h in
      either (b w) (k w) (r w) off (λ o. stays e.0 w e.1 e.4 e.5 p.0 o)) in
      let d = count_meet_union g.order (minus k b) (minus r b) in omega arith
    where
      either : (x y z : Bool) → not x ≡ true → (z ≡ false → y ≡ true) → ((y && not x) || (z && not x)) ≡ true
      either x y z h i = grind arith

  two_wider : 1 ≤ count g.order (meet k b) → count g.order (meet k b) + 2 ≤ count g.order b → count g.order (meet k b) + 2 ≤ count g.order (minus k b) + count g.order (minus r b)
  two_wider some small = grind (arith, near_part, meet, and_parts)

  -- a vertex of the part on the side has three neighbours, and r has at most two vertices
  other_half : 3 ≤ count g.order b → count g.order (minus r b) ≤ 2 → 1 ≤ count g.order (meet k b) → 1 ≤ count g.order (minus k b)
  other_half three few some =
      let v = count_member g.order (meet k b) some in
      let q = and_parts (k v.0) (b v.0) v.2 in
      let o = count_singleton g.order v.0 v.1 in
      let n = near_part (singleton v.0) (λ w h. sym (ap (meet k b) (eqb-true v.0 w h)) ∙ v.2) in
      let w = wide (singleton v.0) (λ w ww h. sym (ap b (eqb-true v.0 w h)) ∙ q.1) (omega arith) (omega arith) in omega arith

module _ (g : Graph) (is : IsMultigraph g) (a : Set) (two : IsSide g a) (wide : HasWideNeighbourhoods g a) (wide_too : HasWideNeighbourhoods g (complement a)) (equal : count g.order a ≡ count g.order (complement a)) (three : 3 ≤ count g.order a) (r : Set) (few : count g.order r ≤ 2) where
  two_too : IsSide g (complement a)
  two_too = other_side g is.ends a two

  -- what is not off the side is on it
  on_again : (x : Set) → count g.order (minus x (complement a)) ≡ count g.order (meet x a)
  on_again x = grind arith

  -- a part has vertices on both sides
  both_halves : (k : Set) → IsPartBeside g r k → 1 ≤ count g.order k → (1 ≤ count g.order (meet k a)) × (1 ≤ count g.order (minus k a))
  both_halves k part some =
      let s = count_split g.order k a in
      let t = count_split g.order r a in
      elim (cases_lt 0 (count g.order (meet k a))) [
        | inl h ↦ (h, other_half g is a two wide r k part three (omega arith) h)
        | inr h ↦
            let i : 1 ≤ count g.order (minus k a) = omega arith in
            let j = other_half g is (complement a) two_too wide_too r k part (omega arith) (let c = on_again r in omega arith) i in
            let c = on_again k in (omega arith, i)
      ]

  -- where r has a vertex on the side, that side is too small for two parts
  module _ (k : Set) (part : IsPartBeside g r k) (some : 1 ≤ count g.order k) (more : 1 ≤ count g.order (minus (complement r) k)) where
    abbrev rest : Set
    rest = minus (complement r) k

    -- a set is split in three
    in_three : (b : Set) → count g.order b ≡ (count g.order (meet k b) + count g.order (meet rest b)) + count g.order (meet r b)
    in_three b =
        let c = count_split g.order b r in
        let d = count_split g.order (minus b r) k in
        let i : count g.order (meet b r) ≡ count g.order (meet r b) = count_congr g.order _ _ (λ v w. turned (b v) (r v)) in
        let j : count g.order (meet (minus b r) k) ≡ count g.order (meet k b) = count_congr g.order _ _ (λ v w. in_part (b v) (r v) (k v) (part.out v)) in
        let l : count g.order (minus (minus b r) k) ≡ count g.order (meet rest b) = count_congr g.order _ _ (λ v w. in_rest (b v) (r v) (k v)) in omega arith
      where
        turned : (p q : Bool) → (p && q) ≡ (q && p)
        turned p q = grind arith

        in_part : (p q s : Bool) → (s ≡ true → q ≡ false) → ((p && not q) && s) ≡ (s && p)
        in_part p q s h = grind arith

        in_rest : (p q s : Bool) → ((p && not q) && not s) ≡ ((not q && not s) && p)
        in_rest p q s = grind arith

    no_parts : 1 ≤ count g.order r → ⊥
    no_parts some_r =
        let p = both_halves k part some in
        let q = both_halves rest (rest_beside g r k part) more in
        let t = count_split g.order r a in
        let i = in_three a in
        let j : count g.order (complement a) ≡ (count g.order (minus k a) + count g.order (minus rest a)) + count g.order (minus r a) = in_three (complement a) in
        let p0 = p.0 in let p1 = p.1 in let q0 = q.0 in let q1 = q.1 in
        elim (cases_lt 0 (count g.order (meet r a))) [
          | inl h ↦
              let x = two_wider g is a two wide r k part p0 (omega arith) in
              let y = two_wider g is a two wide r rest (rest_beside g r k part) q0 (omega arith) in omega arith
          | inr h ↦
              let x = two_wider g is (complement a) two_too wide_too r k part p1 (omega arith) in
              let y = two_wider g is (complement a) two_too wide_too r rest (rest_beside g r k part) q1 (omega arith) in
              let c = on_again k in let d = on_again rest in let e = on_again r in omega arith
        ]

module _ (g : Graph) (is : IsMultigraph g) (cov : IsCovered g) (uncut : HasOnlyTrivialTightCuts g) (six : 6 ≤ g.order) (a : Set) (two : IsSide g a) where
  no_pair : (u v : ℕ) → IsCutPair g u v → ⊥
  unfolding component_count
  no_pair u v c =
      let p = two_of g.order (is_least g (pair_set u v)) c.parts in
      let ro = leads_out g (pair_set u v) p.1 p.6 in
      let off : joined g (pair_set u v) p.0 p.1 ≡ false = false_from_ne_true _ (λ t.
      p.4 (leader_same g (pair_set u v) is.ends p.0 p.1 p.1 p.2 p.3 p.3 p.5 t p.6 (walk_joined g (pair_set u v) is.ends p.1 p.1 p.3 (joined_self g (pair_set u v) p.1)))) in
      let part : IsPartBeside g (pair_set u v) (joined g (pair_set u v) p.0) = record {
        out = λ w h. joined_outside g (pair_set u v) is.ends p.0 w (leads_out g (pair_set u v) p.0 p.5) h;
        keeps = λ e we f s. part_step g (pair_set u v) p.0 e is.ends p.2 we f s;
      } in
      let n = count_complement g.order a in
      let equal = equal_sides g is.ends a two cov in
      no_parts g is a two ((wide_or_tight g is cov a two).0 uncut) ((wide_or_tight g is cov (complement a) (other_side g is.ends a two)).0 uncut) equal (omega arith) (pair_set u v) (count_pair g.order u v c.first c.second)
      (joined g (pair_set u v) p.0) part
      (member_count g.order (joined g (pair_set u v) p.0) p.0 p.2 (walk_joined g (pair_set u v) is.ends p.0 p.0 p.2 (joined_self g (pair_set u v) p.0)))
      (member_count g.order (minus (complement (pair_set u v)) (joined g (pair_set u v) p.0)) p.1 p.3 (but_from (not (pair_set u v p.1)) (joined g (pair_set u v) p.0 p.1) (ap not ro) off))
      (member_count g.order (pair_set u v) u c.first (or_left (u == u) (v == u) (eq-eqb u u refl)))

pub extendable_connected : (g : Graph) → IsMultigraph g → 6 ≤ g.order → IsConnected g → HasPerfect g none → IsTwoExtendable g → IsThreeConnected g
extendable_connected g is six joined perfect ext =
    let u = extendable_uncut g is six joined perfect ext in
    elim (bipartite-or g is.ends) [
      | inl sides ↦ (pair_or_three g is.ends (omega arith)).0 (no_pair g is u.0 u.1 six sides.0 (λ e w d. sides.1 e w))
      | inr odd ↦ (extendable_brick g is six joined perfect ext odd).0
    ]
