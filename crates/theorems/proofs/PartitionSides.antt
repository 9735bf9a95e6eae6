-- Two sides at a partition: a union of blocks that each edge between two blocks leaves.
-- Idea: the quotient is bipartite if and only if there are such sides. A tight shore has one
-- vertex more on one side, so all edges that leave it leave it there.
use Rattle.tree_check.proofs.from_counting.Common.{◌≡◌, ◌≢◌, ◌∙◌, ℕ, ◌<◌, Bool, true, false, not, ◌&&◌, ◌||◌, ◌==◌, List, length, inl, inr, sym, ap, arith, subst, subst₂, ne_eqb, and_from, and_parts, both_ways, cases_eq, not_not, count_congr, some_true, true_some, Within, count, Set, complement, meet, minus, some}
use Rattle.graph_core.proofs.Common.{IsSide, IsCovered, Graph, IsBipartite, IsGraph, first_end, has_ends, in_cut, second_end, size, AreBlocks, contracted, place, blocks_adjacent, quotient, IsTightAt, IsUnion, blocks_in, at_place, at_rep, contracted-ends, contracted-graph, contracted-order, contracted-size, place_in, covered_perfect, has_ends-cases, has_ends-own}
use Rattle.tree_core.proofs.QuotientSides.{Parts, differ, differ-back, parted, parts_from_sides, sides_from_parts}
use Rattle.quick_kinds.proofs.from_matching_digraph.Balance.{balance, leaves_right, none_right}

-- c is one side at p: a union of blocks that each edge between two blocks leaves
pub record IsSideAt (g : Graph) (p : List (List ℕ)) (c : Set) : Type 0 where
  pub union : IsUnion g.order p c
  pub cut : (e : ℕ) → Within (size g) e → place p (first_end g e) ≢ place p (second_end g e) → in_cut g c e ≡ true

abbrev pub HasSideAt : Graph → List (List ℕ) → Type 0
HasSideAt g p = (c : Set) × IsSideAt g p c

module _ (g : Graph) (is : IsGraph g) (p : List (List ℕ)) (pp : AreBlocks g.order p) where
  -- an edge between two blocks makes them adjacent
  places-adjacent : (e : ℕ) → Within (size g) e → place p (first_end g e) ≢ place p (second_end g e) → blocks_adjacent g p (place p (first_end g e)) (place p (second_end g e)) ≡ true
  places-adjacent e w d =
      let ends = contracted-ends g p e w in
      and_from (not (place p (first_end g e) == place p (second_end g e))) (some (size g) (has_ends (contracted g p) (place p (first_end g e)) (place p (second_end g e))))
      (ap not (ne_eqb (place p (first_end g e)) (place p (second_end g e)) d))
      (true_some (size g) (has_ends (contracted g p) (place p (first_end g e)) (place p (second_end g e))) e w
      (subst₂ (λ a b. has_ends (contracted g p) a b e ≡ true) ends.0 ends.1 (has_ends-own (contracted g p) e)))

  pub side-from_bipartite : IsBipartite (quotient g p) → HasSideAt g p
  side-from_bipartite b = (
    λ v. b.0 (place p v),
    record {
      union = λ u v wu wv same. ap b.0 same;
      cut = λ e w d. parted g p b.0 (parts_from_sides g p b.0 b.1) (place p (first_end g e)) (place p (second_end g e)) (place_in g.order p pp (first_end g e) (is e w).0).0 (place_in g.order p pp (second_end g e) (is e w).1).0 (places-adjacent e w d);
    },
  )

  pub bipartite-from_side : HasSideAt g p → IsBipartite (quotient g p)
  bipartite-from_side c = (blocks_in p c.0, sides_from_parts g p (blocks_in p c.0) parts)
    where
      at : (v : ℕ) → Within g.order v → blocks_in p c.0 (place p v) ≡ c.0 v
      at v w = at_place g.order p pp c.0 c.1.union v w

      parts : Parts g p (blocks_in p c.0)
      parts i j wi wj l adjacent =
          let e = some_true (size g) (has_ends (contracted g p) i j) (and_parts (not (i == j)) (some (size g) (has_ends (contracted g p) i j)) adjacent).1 in
          let ends = contracted-ends g p e.0 e.1 in
          let wa = (is e.0 e.1).0 in
          let wb = (is e.0 e.1).1 in
          elim (has_ends-cases (contracted g p) i j e.0 e.2) [
            | inl k ↦ grind (arith, less_same, differ, at, first_end, blocks_in, second_end)
            | inr k ↦ grind (arith, less_same, differ-back, blocks_in, differ, at, first_end, second_end)
          ]
        where
          less_same : (i j : ℕ) → i < j → i ≡ j → ⊥
          less_same i j l e = omega arith

-- the other side
turned-cut : (a b : Bool) → differ a b ≡ true → differ (not a) (not b) ≡ true
turned-cut a b h = grind arith

pub other-side_at : (g : Graph) (p : List (List ℕ)) (c : Set) → IsSideAt g p c → IsSideAt g p (complement c)
other-side_at g p c side = record { union = λ u v wu wv same. ap not (side.union u v wu wv same); cut = λ e w d. turned-cut (c (first_end g e)) (c (second_end g e)) (side.cut e w d) }

-- each edge that leaves x leaves it from c
pub record LeavesFrom (g : Graph) (x c : Set) : Type 0 where
  pub there : (e : ℕ) → Within (size g) e → x (first_end g e) ≡ true → x (second_end g e) ≡ false → c (first_end g e) ≡ true
  pub back : (e : ℕ) → Within (size g) e → x (second_end g e) ≡ true → x (first_end g e) ≡ false → c (second_end g e) ≡ true

-- an edge with the ends a and b in x, c and d on the side, leaves x off the side
abbrev right : Bool → Bool → Bool → Bool → Bool
right a b c d = ((a && not c) && (not b && d)) || ((not a && c) && (b && not d))

-- the edges that leave a tight shore leave it on one side
module _ (g : Graph) (is : IsGraph g) (p : List (List ℕ)) (pp : AreBlocks g.order p) (covered : IsCovered (contracted g p)) (x : Set) (tight : IsTightAt g p x) where
  abbrev h : Graph
  h = contracted g p

  h-graph : IsGraph h
  h-graph = contracted-graph g p is pp

  blocks-side : (c : Set) → IsSideAt g p c → IsSide h (blocks_in p c)
  blocks-side c side e we d = grind (arith, contracted-size, size, contracted-ends, blocks_in, at_place, first_end, second_end, differ)

  leaves-from : (c : Set) (side : IsSideAt g p c) → ((e : ℕ) → Within (size h) e → leaves_right h h-graph (blocks_in p c) (blocks-side c side) (blocks_in p x) e ≡ false) → LeavesFrom g x c
  leaves-from c side none = record {
    there = λ e w t f. let r = rest e w in from (x (first_end g e)) (x (second_end g e)) (c (first_end g e)) (c (second_end g e)) r.0 (r.1 (λ same. both_ways (x (second_end g e)) f (sym (tight.union (first_end g e) (second_end g e) (is e w).0 (is e w).1 same) ∙ t))) t f;
    back = λ e w t f. let r = rest e w in into (x (first_end g e)) (x (second_end g e)) (c (first_end g e)) (c (second_end g e)) r.0 (r.1 (λ same. both_ways (x (first_end g e)) f (tight.union (first_end g e) (second_end g e) (is e w).0 (is e w).1 same ∙ t))) t f;
  }
    where
      rest : (e : ℕ) → Within (size g) e → (right (x (first_end g e)) (x (second_end g e)) (c (first_end g e)) (c (second_end g e)) ≡ false) × (place p (first_end g e) ≢ place p (second_end g e) → differ (c (first_end g e)) (c (second_end g e)) ≡ true)
      rest e w =
          let ends = contracted-ends g p e w in
          let s = contracted-size g p in
          let xa = ap (blocks_in p x) ends.0 ∙ at_place g.order p pp x tight.union (first_end g e) (is e w).0 in
          let xb = ap (blocks_in p x) ends.1 ∙ at_place g.order p pp x tight.union (second_end g e) (is e w).1 in
          let ca = ap (blocks_in p c) ends.0 ∙ at_place g.order p pp c side.union (first_end g e) (is e w).0 in
          let cb = ap (blocks_in p c) ends.1 ∙ at_place g.order p pp c side.union (second_end g e) (is e w).1 in (
            subst₂ (λ a b. right a b (c (first_end g e)) (c (second_end g e)) ≡ false) xa xb
                (subst₂ (λ a b. right (blocks_in p x (first_end h e)) (blocks_in p x (second_end h e)) a b ≡ false) ca cb
                (none e (subst (λ n. Within n e) (sym s) w))),
            side.cut e w,
          )

      from : (a b c d : Bool) → right a b c d ≡ false → differ c d ≡ true → a ≡ true → b ≡ false → c ≡ true
      from a b c d h i k l = grind arith

      into : (a b c d : Bool) → right a b c d ≡ false → differ c d ≡ true → b ≡ true → a ≡ false → d ≡ true
      into a b c d h i k l = grind arith

  -- the side turned
  not-block : (c : Set) → IsSideAt g p c → (i : ℕ) → Within h.order i → blocks_in p (complement c) i ≡ not (blocks_in p c i)
  not-block c side i wi =
      let w : Within (length p) i = subst (λ n. Within n i) (contracted-order g p) wi in
      at_rep g.order p pp (complement c) (other-side_at g p c side).union i w ∙ ap not (sym (at_rep g.order p pp c side.union i w))

  more-left : (c : Set) → IsSideAt g p c → count h.order (meet (blocks_in p x) (blocks_in p (complement c))) ≡ count h.order (minus (blocks_in p x) (blocks_in p c))
  more-left c side = count_congr h.order (meet (blocks_in p x) (blocks_in p (complement c))) (minus (blocks_in p x) (blocks_in p c)) (λ i w. ap (λ b. blocks_in p x i && b) (not-block c side i w))

  less-right : (c : Set) → IsSideAt g p c → count h.order (minus (blocks_in p x) (blocks_in p (complement c))) ≡ count h.order (meet (blocks_in p x) (blocks_in p c))
  less-right c side =
      count_congr h.order (minus (blocks_in p x) (blocks_in p (complement c))) (meet (blocks_in p x) (blocks_in p c))
      (λ i w. ap (λ b. blocks_in p x i && not b) (not-block c side i w) ∙ ap (λ b. blocks_in p x i && b) (not_not (blocks_in p c i)))

  pub side-chosen : (c : Set) → IsSideAt g p c → (d : Set) × IsSideAt g p d × LeavesFrom g x d
  side-chosen c side =
      let y = blocks_in p c in
      let z = blocks_in p x in
      let two = blocks-side c side in
      let m = covered_perfect h h-graph covered in
      let b = balance h h-graph y two z m.0 m.1 in
      let b0 = b.0 in
      let b1 = b.1 in
      let one = tight.tight.cut m.0 m.1 in
      elim (cases_eq (count (size h) (λ e. m.0 e && leaves_right h h-graph y two z e)) 0) [
        | inl i ↦ (c, side, leaves-from c side (none_right h h-graph y two covered z tight.tight.cut (omega arith)))
        | inr i ↦
            let other = other-side_at g p c side in
            let turned = blocks-side (complement c) other in
            let k = more-left c side in
            let l = less-right c side in
            (complement c, other, leaves-from (complement c) other (none_right h h-graph (blocks_in p (complement c)) turned covered z tight.tight.cut (omega arith)))
      ]
