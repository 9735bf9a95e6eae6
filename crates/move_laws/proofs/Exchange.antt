-- The exchange law: if a block on each side of a tight shore is exchanged and the new shore is
-- tight, the four parts satisfy the conditions on regions for an exchange of blocks, so the
-- partitions below the two shores are the same leaves.
use Rattle.graph_core.proofs.from_counting.Common.{Bool, List, ap, arith, cond, false, inl, inr, length, not, suc, sym, true, ℕ, ◌&&◌, ◌+◌, ◌||◌, ◌∙◌, ◌≡◌, ◌≢◌, cases_Bool, total_at, Within, bit, is_odd, Set, complement, meet, minus, union}
use Rattle.graph_core.proofs.Common.{at_place, at_rep, block_count_congr, block_count_parts, no_edge_at, rep, rep_in, rep_place, union_meet, union_minus, union_rest, place_in, IsCovered, Graph, IsGraph, first_end, second_end, AreBlocks, IsMerge, contracted, place, IsUnion, block_count, blocks_in}
use Rattle.tree_core.proofs.Common.{IsBlockOf}
use Rattle.move_laws.proofs.ExchangedBlocks.{exchange, four_turned}
use Rattle.move_laws.proofs.FourRegions.{FourRegions}
use Rattle.move_laws.specs.Common.{Corner, Isomorphism}

-- a block counts one
pub block_count-one : (n : ℕ) (p : List (List ℕ)) → AreBlocks n p → (u : Set) (s : ℕ) → IsBlockOf n p u s → block_count p u ≡ 1
block_count-one n p pp u s b =
    total_at (length p) (λ i. bit (blocks_in p u i)) (place p s) (place_in n p pp s b.within).0 (λ i w d. ap bit (other i w d))
    ∙ ap bit (at_place n p pp u b.closed s b.within ∙ b.holds)
  where
    other : (i : ℕ) → Within (length p) i → i ≢ place p s → blocks_in p u i ≡ false
    other i w d = elim (cases_Bool (blocks_in p u i)) [
      | inr f ↦ f
      | inl h ↦ absurd (d (sym (rep_place n p pp i w) ∙ b.one (rep p i) (rep_in n p pp i w).0 (sym (at_rep n p pp u b.closed i w) ∙ h)))
    ]

-- an odd number of blocks without one
pub even_rest : (k l : ℕ) → is_odd k ≡ true → k ≡ 1 + l → is_odd l ≡ false
even_rest k l h e = go (is_odd l) (sym (ap is_odd (let z : k ≡ suc l = omega arith in z)) ∙ h)
  where
    go : (b : Bool) → not b ≡ true → b ≡ false
    go b h = grind arith

module _ (g : Graph) (is : IsGraph g) (p : List (List ℕ)) (pp : AreBlocks g.order p) (cov : IsCovered (contracted g p)) (x u v : Set) (s t : ℕ) (corner : Corner g p x u v s t) where
  abbrev pub inner_part : Set
  inner_part = minus x u

  abbrev pub outer_part : Set
  outer_part = minus (complement x) v

  closed_inner : IsUnion g.order p inner_part
  closed_inner = union_minus g.order p pp x u corner.shore.union corner.left.closed

  closed_outer : IsUnion g.order p outer_part
  closed_outer = union_minus g.order p pp (complement x) v (union_rest g.order p pp x corner.shore.union) corner.right.closed

  pub even_inner : is_odd (block_count p inner_part) ≡ false
  unfolding contracted
  even_inner =
      let a = block_count_parts g.order p pp x u corner.shore.union corner.left.closed in
      let b = block_count_congr g.order p pp (meet x u) u (λ w ww. both (x w) (u w) (corner.inside w ww)) (union_meet g.order p pp x u corner.shore.union corner.left.closed) in
      let c = block_count-one g.order p pp u s corner.left in
      even_rest (block_count p x) (block_count p inner_part) corner.shore.tight.odd (omega arith)
    where
      both : (a b : Bool) → (b ≡ true → a ≡ true) → (a && b) ≡ b
      both a b h = grind arith

  pub even_outer : is_odd (block_count p outer_part) ≡ false
  unfolding contracted
  even_outer =
      let z : Set = union outer_part u in
      let a = block_count_parts g.order p pp z u corner.new.union corner.left.closed in
      let b = block_count_congr g.order p pp (meet z u) u (λ w ww. both (outer_part w) (u w)) (union_meet g.order p pp z u corner.new.union corner.left.closed) in
      let d = block_count_congr g.order p pp (minus z u) outer_part (λ w ww. gone (x w) (v w) (u w) (corner.inside w ww)) (union_minus g.order p pp z u corner.new.union corner.left.closed) in
      let c = block_count-one g.order p pp u s corner.left in
      even_rest (block_count p z) (block_count p outer_part) corner.new.tight.odd (omega arith)
    where
      both : (a b : Bool) → ((a || b) && b) ≡ b
      both a b = grind arith

      gone : (x v u : Bool) → (u ≡ true → x ≡ true) → (((not x && not v) || u) && not u) ≡ (not x && not v)
      gone x v u h = grind arith

  pub four : FourRegions g p inner_part u outer_part v s t
  unfolding contracted
  four = record {
    first = closed_inner;
    second = closed_outer;
    left = corner.left;
    right = corner.right;
    once = λ w ww. regions (x w) (u w) (v w) (corner.inside w ww) (corner.outside w ww);
    parted = λ e w. edge (x (first_end g e)) (u (first_end g e)) (v (first_end g e)) (x (second_end g e)) (u (second_end g e)) (v (second_end g e)) (corner.inside (first_end g e) (is e w).0) (corner.inside (second_end g e) (is e w).1)
        (no_edge_at g is p pp cov x (union outer_part u) corner.shore corner.new odd_meet e w);
  }
    where
      odd_meet : is_odd (block_count p (meet x (union outer_part u))) ≡ true
      odd_meet = ap is_odd (block_count_congr g.order p pp (meet x (union outer_part u)) u (λ w ww. both (x w) (v w) (u w) (corner.inside w ww)) (union_meet g.order p pp x (union outer_part u) corner.shore.union corner.new.union) ∙ block_count-one g.order p pp u s corner.left)
        where
          both : (x v u : Bool) → (u ≡ true → x ≡ true) → (x && ((not x && not v) || u)) ≡ u
          both x v u h = grind arith

      regions : (x u v : Bool) → (u ≡ true → x ≡ true) → (v ≡ true → x ≡ false) → bit (x && not u) + bit u + bit (not x && not v) + bit v ≡ 1
      regions x u v h i = grind arith

      edge : (x u v x' u' v' : Bool) → (u ≡ true → x ≡ true) → (u' ≡ true → x' ≡ true) →
          (((x && not ((not x && not v) || u)) && (((not x' && not v') || u') && not x')) || ((((not x && not v) || u) && not x) && (x' && not ((not x' && not v') || u')))) ≡ false →
          (((x && not u) && (not x' && not v')) || ((not x && not v) && (x' && not u'))) ≡ false
      edge true u v true u' v' h k q = grind arith
      edge true true v false u' v' h k q = grind arith
      edge true false v false u' v' h k q = grind arith
      edge false u v true true v' h k q = grind arith
      edge false u v true false v' h k q = grind arith
      edge false u v false u' v' h k q = grind arith

  -- below `kept` of x: the partition with the complement merged, and that with u and the outer
  -- part merged
  pub exchange_kept : (r q : List (List ℕ)) → IsMerge g.order p (union outer_part v) r → IsMerge g.order p (union outer_part u) q → Isomorphism g r q (λ w. cond (outer_part w) t w) (λ w. cond (outer_part w) s w)
  exchange_kept r q mr mq = exchange g is p r q inner_part u outer_part v s t pp cov four even_outer mr mq

  -- below `merged` of x: the partition with x merged, and that with v and the inner part merged
  pub exchange_merged : (r q : List (List ℕ)) → IsMerge g.order p (union inner_part u) r → IsMerge g.order p (union inner_part v) q → Isomorphism g r q (λ w. cond (inner_part w) s w) (λ w. cond (inner_part w) t w)
  exchange_merged r q mr mq = exchange g is p r q outer_part v inner_part u t s pp cov (four_turned g p inner_part u outer_part v s t four) even_inner mr mq
