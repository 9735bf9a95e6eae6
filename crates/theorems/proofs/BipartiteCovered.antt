-- When a bipartite graph is matching covered (Hetyei). With a neighbour more than vertices for
-- each proper part of a side, any two vertices on opposite sides leave a perfect matching, by
-- Hall's theorem; so each edge is in one. Four vertices make the graph connected.
use Rattle.tree_check.proofs.from_counting.Common.{◌≡◌, ◌≢◌, ℕ, ◌+◌, ◌≤◌, Bool, true, false, ◌==◌, ◌&&◌, ◌||◌, not, refl, sym, ap, ◌∙◌, arith, eqb-true, subst, ◌↔◌, inl, inr, and_from, and_parts, both_ways, but_from, cases_Bool, cases_lt, false_from_ne_true, not-true, or_comm, true≢false, count_complement, count_congr, count_member, count_minus, count_mono, count_singleton, count_split, count_zero, Within, count, Set, complement, meet, minus, none, pair_set, singleton, union}
use Rattle.barrier_kit.proofs.Common.{neighbours, perfect_congr}
use Rattle.graph_core.proofs.Common.{degrees, joined_or_not, parted, Allowed, Graph, IsConnected, IsCovered, IsMultigraph, IsPerfect, IsSide, edges_in_cut, first_end, has_ends, has_ends-back, has_ends-own, in_cut, second_end, size}
use Rattle.quick_kinds.proofs.from_matching_digraph.Balance.{equal_sides, no_inner, other_side}
use Rattle.quick_kinds.proofs.from_matching_digraph.TightShores.{ends_within}
use Rattle.two_ears.proofs.OppositeSides.{opposite}
use Rattle.theorems.proofs.AddedEdges.{allowed_from, degrees_outside, ends_set}
use Rattle.theorems.proofs.BrickFacts.{turned_cut}
use Rattle.theorems.proofs.HallMatchings.{near_beside}
use Rattle.theorems.proofs.Marriages.{matched_sides, same_count, same_near, within_side}
use Rattle.theorems.proofs.Partners.{beside}
use Rattle.theorems.proofs.Neighbourhoods.{edge_neighbour, near_side, neighbour_edge, surplus}
use Rattle.theorems.proofs.TwoExtendable.{cut_from_ends}
use Rattle.theorems.specs.Bipartite.{ArePairsMatched, HasSurplus}
use Rattle.theorems.specs.Braces.{neighbourhood}

module _ (g : Graph) (a : Set) (is : IsMultigraph g) (two : IsSide g a) where
  -- a covered graph
  module _ (cov : IsCovered g) where
    pub covered_surplus : HasSurplus g a
    covered_surplus s sub some small =
        let c = same_count g a is two s sub in
        let d = same_near g a is two s sub in
        let i = count_split g.order a s in
        let u = count_member g.order (meet a s) (omega arith) in
        let v = count_member g.order (minus a s) (omega arith) in
        let p = and_parts (a v.0) (not (s v.0)) v.2 in
        let k = surplus g is a two (meet a s) (within_side g a is two s sub) cov u.0 v.0 u.1 v.1 u.2 p.0 (none_of (a v.0) (s v.0) (not-true (s v.0) p.1)) in omega arith
      where
        none_of : (x y : Bool) → y ≡ false → (x && y) ≡ false
        none_of x y h = grind arith

    covered_sides : count g.order a ≡ count g.order (complement a)
    covered_sides = equal_sides g is.ends a two cov

    covered_pairs : ArePairsMatched g a
    covered_pairs u v wu wv au av = opposite g is.ends cov a two u v wu wv au av

  -- surplus and equal sides leave a perfect matching beside any two vertices on opposite sides
  pairs_from : count g.order a ≡ count g.order (complement a) → HasSurplus g a → ArePairsMatched g a
  pairs_from equal more u v wu wv au av =
      let m = matched_sides g l r is.ends apart as_many enough in
      (m.0, perfect_congr g (complement (union l r)) (pair_set u v) m.0 (λ w ww. all (a w) (u == w) (v == w) (λ t. ap a (sym (eqb-true u w t)) ∙ au) (λ t. ap a (sym (eqb-true v w t)) ∙ av)) m.1)
    where
      l : Set
      l = minus a (singleton u)

      r : Set
      r = minus (complement a) (singleton v)

      apart : (w : ℕ) → l w ≡ true → r w ≡ true → ⊥
      apart w i j = both_ways (a w) (not-true (a w) (and_parts (not (a w)) (not (v == w)) j).0) (and_parts (a w) (not (u == w)) i).0

      as_many : count g.order l ≡ count g.order r
      as_many = let p = count_minus g.order a u wu au in let q = count_minus g.order (complement a) v wv (ap not av) in omega arith

      all : (x y z : Bool) → (y ≡ true → x ≡ true) → (z ≡ true → x ≡ false) → not ((x && not y) || (not x && not z)) ≡ (y || z)
      all x y z h k = grind arith

      enough : (z : Set) → count g.order (meet z l) ≤ count g.order (neighbours g.order (beside g) r (meet z l))
      enough z = elim (cases_lt 0 (count g.order (meet z l))) [
        | inr few ↦ omega arith
        | inl some ↦
            let sub : (w : ℕ) → meet z l w ≡ true → a w ≡ true = λ w i. (and_parts (a w) (not (u == w)) (and_parts (z w) (l w) i).1).0 in
            let few = count_mono g.order (meet z l) l (λ w ww i. (and_parts (z w) (l w) i).1) in
            let p = count_minus g.order a u wu au in
            let k = more (meet z l) (λ w ww. sub w) some (omega arith) in
            let n : Set = neighbourhood g (meet z l) in
            let s = count_split g.order n (singleton v) in
            let o = count_mono g.order (meet n (singleton v)) (singleton v) (λ w ww i. (and_parts (n w) (v == w) i).1) in
            let i = count_singleton g.order v wv in
            let j = count_mono g.order (minus n (singleton v)) (neighbours g.order (beside g) r (meet z l)) (λ w ww i.
            let p = and_parts (n w) (not (v == w)) i in
            let q = near_beside g a is two (meet z l) sub w ww p.0 in
            drop (not (a w)) (not (v == w)) _ p.1 q) in
            omega arith
      ]
        where
          drop : (x y z : Bool) → y ≡ true → (x && z) ≡ true → ((x && y) && z) ≡ true
          drop x y z h k = grind arith

  -- then each edge is in a perfect matching
  allowed_by_pairs : ArePairsMatched g a → (e : ℕ) → Within (size g) e → first_end g e ≢ second_end g e → Allowed g e
  allowed_by_pairs pairs e w d = grind (arith, allowed_from, first_end, second_end, ends_set, true≢false, perfect_congr, pair_set, or_comm)

  covered_by_pairs : 2 ≤ g.order → IsConnected g → ArePairsMatched g a → IsCovered g
  covered_by_pairs many connected pairs = record { two = many; connected = connected; allowed = allowed_by_pairs pairs }

  -- four vertices with surplus are connected
  module _ (four : 4 ≤ g.order) (equal : count g.order a ≡ count g.order (complement a)) (more : HasSurplus g a) where
    many_left : 2 ≤ count g.order a
    many_left = let c = count_complement g.order a in omega arith

    -- no vertex off the side is without a neighbour
    no_lone : (w : ℕ) → Within g.order w → a w ≡ false → ((y e : ℕ) → Within (size g) e → has_ends g y w e ≡ true → a y ≡ true → ⊥) → ⊥
    no_lone w ww aw lone =
        let m = many_left in
        let y = count_member g.order a (omega arith) in
        let s : Set = minus a (singleton y.0) in
        let c = count_minus g.order a y.0 y.1 y.2 in
        let sub : (v : ℕ) → s v ≡ true → a v ≡ true = λ v i. (and_parts (a v) (not (y.0 == v)) i).0 in
        let k = more s (λ v wv. sub v) (omega arith) (omega arith) in
        let d = count_minus g.order (complement a) w ww (ap not aw) in
        let f = count_mono g.order (neighbourhood g s) (minus (complement a) (singleton w)) (λ v wv h. but_from (not (a v)) (w == v) (near_side g is a two s sub v h) (false_from_ne_true (w == v) (λ t.
        let e = neighbour_edge g s v h in
        lone e.0 e.1 e.4 (subst (λ k. has_ends g e.0 k e.1 ≡ true) (sym (eqb-true w v t)) e.5) (sub e.0 e.3)))) in
        omega arith

    -- so no set that is neither empty nor all is without an edge in its cut
    module _ (x : Set) (closed : (e : ℕ) → Within (size g) e → in_cut g x e ≡ false) where
      stays : (p q e : ℕ) → Within (size g) e → has_ends g p q e ≡ true → x p ≡ true → x q ≡ true
      stays p q e w h xp = grind (arith, cases_Bool, both_ways, in_cut, cut_from_ends)

      no_gap : (u v : ℕ) → Within g.order u → Within g.order v → x u ≡ true → x v ≡ false → ⊥
      no_gap u v wu wv xu xv = elim (cases_lt 0 (count g.order (minus a x))) [
        | inr none_out ↦
            let z : (y : ℕ) → Within g.order y → minus a x y ≡ false = count_zero g.order (minus a x) (omega arith) in
            no_lone v wv (false_from_ne_true (a v) (λ t. both_ways (minus a x v) (z v wv) (but_from (a v) (x v) t xv))) (λ y e we h ay.
            let wy = (ends y v e we h).0 in
            both_ways (x v) xv (stays y v e we h (inside_of (a y) (x y) ay (z y wy))))
        | inl some_out ↦ elim (cases_lt 0 (count g.order (meet a x))) [
          | inr none_in ↦
              let z : (y : ℕ) → Within g.order y → meet a x y ≡ false = count_zero g.order (meet a x) (omega arith) in
              no_lone u wu (false_from_ne_true (a u) (λ t. both_ways (meet a x u) (z u wu) (and_from (a u) (x u) t xu))) (λ y e we h ay.
              let wy = (ends y u e we h).0 in
              both_ways (meet a x y) (z y wy) (and_from (a y) (x y) ay (stays u y e we (has_ends-back g y u e h) xu)))
          | inl some_in ↦
              let c = count_split g.order a x in
              let d = count_split g.order (complement a) x in
              let sub : (y : ℕ) → meet a x y ≡ true → a y ≡ true = λ y h. (and_parts (a y) (x y) h).0 in
              let sub' : (y : ℕ) → minus a x y ≡ true → a y ≡ true = λ y h. (and_parts (a y) (not (x y)) h).0 in
              let i = more (meet a x) (λ y wy. sub y) some_in (omega arith) in
              let j = more (minus a x) (λ y wy. sub' y) some_out (omega arith) in
              let k = count_mono g.order (neighbourhood g (meet a x)) (meet (complement a) x) (λ y wy h.
              let e = neighbour_edge g (meet a x) y h in
              and_from (not (a y)) (x y) (near_side g is a two (meet a x) sub y h) (stays e.0 y e.1 e.4 e.5 (and_parts (a e.0) (x e.0) e.3).1)) in
              let l = count_mono g.order (neighbourhood g (minus a x)) (minus (complement a) x) (λ y wy h.
              let e = neighbour_edge g (minus a x) y h in
              but_from (not (a y)) (x y) (near_side g is a two (minus a x) sub' y h) (false_from_ne_true (x y) (λ t.
              both_ways (x e.0) (not-true (x e.0) (and_parts (a e.0) (not (x e.0)) e.3).1) (stays y e.0 e.1 e.4 (has_ends-back g e.0 y e.1 e.5) t)))) in
              omega arith
        ]
      ]
        where
          inside_of : (p q : Bool) → p ≡ true → (p && not q) ≡ false → q ≡ true
          inside_of p q h k = grind arith

          ends : (p q e : ℕ) → Within (size g) e → has_ends g p q e ≡ true → Within g.order p × Within g.order q
          ends p q e w h = ends_within g is.ends p q e w h

    connected_by_surplus : IsConnected g
    connected_by_surplus u v wu wv = elim (joined_or_not g none is.ends u v wu) [
      | inl j ↦ j
      | inr never ↦ let x = (parted g u v is.ends wu wv).0 never in absurd (no_gap x.0 x.3 u v wu wv x.1 x.2)
    ]

  -- from the pairs alone, if both sides have a vertex
  module _ (pairs : ArePairsMatched g a) where
    -- what a perfect matching beside u and v says of a set on one side
    on_side : (y : Set) → IsSide g y → (s r m : Set) → ((v : ℕ) → s v ≡ true → y v ≡ true) → IsPerfect g r m → count g.order (minus s r) ≡ edges_in_cut g m s
    on_side y side s r m sub p =
        let d = degrees g is.ends m s in
        let o = degrees_outside g r m s p in
        let n = no_inner g is.ends y s r m side sub p in omega arith

    equal_by_pairs : (u v : ℕ) → Within g.order u → Within g.order v → a u ≡ true → a v ≡ false → count g.order a ≡ count g.order (complement a)
    equal_by_pairs u v wu wv au av =
        let m = pairs u v wu wv au av in
        let r : Set = pair_set u v in
        let i = on_side a two a r m.0 (λ w h. h) m.1 in
        let j = on_side (complement a) (other_side g is.ends a two) (complement a) r m.0 (λ w h. h) m.1 in
        let c = turned_cut g m.0 a in
        let p = count_minus g.order a u wu au in
        let q = count_minus g.order (complement a) v wv (ap not av) in
        let s : count g.order (minus a r) ≡ count g.order (minus a (singleton u)) = count_congr g.order _ _ (λ w ww. first (a w) (u == w) (v == w) (λ t. ap a (sym (eqb-true v w t)) ∙ av)) in
        let t : count g.order (minus (complement a) r) ≡ count g.order (minus (complement a) (singleton v)) = count_congr g.order _ _ (λ w ww. second (a w) (u == w) (v == w) (λ t. ap a (sym (eqb-true u w t)) ∙ au)) in
        omega arith
      where
        first : (x y z : Bool) → (z ≡ true → x ≡ false) → (x && not (y || z)) ≡ (x && not y)
        first x y z h = grind arith

        second : (x y z : Bool) → (y ≡ true → x ≡ true) → (not x && not (y || z)) ≡ (not x && not z)
        second x y z h = grind arith

    surplus_by_pairs : (v₀ : ℕ) → Within g.order v₀ → a v₀ ≡ false → HasSurplus g a
    surplus_by_pairs v₀ w₀ a₀ s sub some small = elim (cases_lt (count g.order s) (count g.order (neighbourhood g s))) [
      | inl l ↦ omega arith
      | inr few ↦
          let sc = same_count g a is two s sub in
          let sn = same_near g a is two s sub in
          let c = count_split g.order a s in
          let u = count_member g.order (minus a s) (omega arith) in
          let p = and_parts (a u.0) (not (s u.0)) u.2 in
          let k : count g.order part + 1 ≤ count g.order near = elim (cases_lt 0 (count g.order near)) [
            | inl has ↦
                let v = count_member g.order near has in
                let f = at u.0 v.0 u.1 v.1 p.0 (not-true (s u.0) p.1) (not-true (a v.0) (near_off v.0 v.2)) in
                let d = count_minus g.order near v.0 v.1 v.2 in
                let e = count_mono g.order (minus near (pair_set u.0 v.0)) (minus near (singleton v.0)) (λ w ww h. fewer (near w) (u.0 == w) (v.0 == w) h) in
                omega arith
            | inr never ↦
                let f = at u.0 v₀ u.1 w₀ p.0 (not-true (s u.0) p.1) a₀ in
                let e = count_mono g.order (minus near (pair_set u.0 v₀)) near (λ w ww h. (and_parts (near w) _ h).0) in
                absurd (omega arith)
          ] in absurd (omega arith)
    ]
      where
        part : Set
        part = meet a s

        near : Set
        near = neighbourhood g (meet a s)

        near_off : (v : ℕ) → near v ≡ true → complement a v ≡ true
        near_off v h = near_side g is a two (meet a s) (within_side g a is two s sub) v h

        fewer : (x y z : Bool) → (x && not (y || z)) ≡ true → (x && not z) ≡ true
        fewer x y z h = grind arith

        -- a matching beside u and v matches the part into its neighbours but v
        at : (u v : ℕ) → Within g.order u → Within g.order v → a u ≡ true → s u ≡ false → a v ≡ false → count g.order part ≤ count g.order (minus near (pair_set u v))
        at u v wu wv au su av =
            let m = pairs u v wu wv au av in
            let r : Set = pair_set u v in
            let i = on_side a two part r m.0 (within_side g a is two s sub) m.1 in
            let j = on_side (complement a) (other_side g is.ends a two) near r m.0 near_off m.1 in
            let c : count g.order (minus part r) ≡ count g.order part = count_congr g.order _ _ (λ w ww. off (a w) (s w) (u == w) (v == w) (λ t. ap s (sym (eqb-true u w t)) ∙ su) (λ t. ap a (sym (eqb-true v w t)) ∙ av)) in
            let l = count_mono (size g) (λ e. m.0 e && in_cut g part e) (λ e. m.0 e && in_cut g near e) (λ e w h.
            let p = and_parts (m.0 e) (in_cut g part e) h in
            and_from (m.0 e) (in_cut g near e) p.0 (crosses e w (part (first_end g e)) (part (second_end g e)) refl refl p.1)) in
            omega arith
          where
            off : (x y p q : Bool) → (p ≡ true → y ≡ false) → (q ≡ true → x ≡ false) → ((x && y) && not (p || q)) ≡ (x && y)
            off x y p q h k = grind arith

            -- an edge at the part leads to a neighbour
            over : (e p q : ℕ) → Within (size g) e → Within g.order p → has_ends g p q e ≡ true → part p ≡ true → (near q ≡ true) × (near p ≡ false)
            over e p q w wp h t = (
              edge_neighbour g (meet a s) p q e wp t w h,
              false_from_ne_true (near p) (λ n. both_ways (a p) (not-true (a p) (near_off p n)) (within_side g a is two s sub p t)),
            )

            apart : (x y : Bool) → x ≡ true → y ≡ false → ((x && not y) || (not x && y)) ≡ true
            apart x y h k = grind arith

            apart' : (x y : Bool) → x ≡ true → y ≡ false → ((y && not x) || (not y && x)) ≡ true
            apart' x y h k = grind arith

            crosses : (e : ℕ) → Within (size g) e → (x y : Bool) → part (first_end g e) ≡ x → part (second_end g e) ≡ y → ((x && not y) || (not x && y)) ≡ true → in_cut g near e ≡ true
            crosses e w true true i j h = absurd (true≢false (sym h))
            crosses e w false false i j h = absurd (true≢false (sym h))
            crosses e w true false i j h = let o = over e (first_end g e) (second_end g e) w (is.ends e w).0 (has_ends-own g e) i in apart' (near (second_end g e)) (near (first_end g e)) o.0 o.1
            crosses e w false true i j h = let o = over e (second_end g e) (first_end g e) w (is.ends e w).1 (has_ends-back g (first_end g e) (second_end g e) e (has_ends-own g e)) j in apart (near (first_end g e)) (near (second_end g e)) o.0 o.1

  -- Hetyei's theorem
  pub by_neighbours : 2 ≤ g.order → IsCovered g ↔ (IsConnected g × (count g.order a ≡ count g.order (complement a)) × HasSurplus g a)
  by_neighbours many = grind (arith, covered_sides, covered_surplus, covered_by_pairs, pairs_from)

  pub by_pairs : 2 ≤ g.order → IsCovered g ↔ (IsConnected g × ArePairsMatched g a)
  by_pairs many = grind (arith, covered_pairs, covered_by_pairs)

  pub four_by_neighbours : 4 ≤ g.order → IsCovered g ↔ ((count g.order a ≡ count g.order (complement a)) × HasSurplus g a)
  four_by_neighbours four = grind (arith, covered_sides, covered_surplus, covered_by_pairs, connected_by_surplus, pairs_from)

  pub four_by_pairs : 4 ≤ g.order → IsCovered g ↔ ((1 ≤ count g.order a) × (1 ≤ count g.order (complement a)) × ArePairsMatched g a)
  four_by_pairs four = (
    (λ cov. let e = covered_sides cov in let c = count_complement g.order a in (omega arith, omega arith, covered_pairs cov)),
    (λ h. let u = count_member g.order a h.0 in
        let v = count_member g.order (complement a) h.1 in
        let av = not-true (a v.0) v.2 in
        let equal = equal_by_pairs h.2 u.0 v.0 u.1 v.1 u.2 av in
        let more = surplus_by_pairs h.2 v.0 v.1 av in
        covered_by_pairs (omega arith) (connected_by_surplus four equal more) h.2),
  )
