-- Big shores at a partition: tight, with at least three blocks inside and outside. Two disjoint
-- ones may be merged in either order, which is all that Rotate needs.
use Rattle.graph_core.proofs.from_counting.Common.{Bool, List, ap, arith, false, inl, inr, not, subst, sym, ℕ, ◌&&◌, ◌+◌, ◌∙◌, ◌≡◌, ◌≤◌, both_ways, cases_Bool, same_rising_list, and_implied, not_not, IsRisingIn, mem, Set, complement, meet, minus}
use Rattle.graph_core.proofs.Common.{block_count_congr, block_count_parts, block_count_rest, tight_congr, tight_rest, union_congr, union_meet, union_minus, union_rest, complement_of-rises, mem-complement_of, merged_blocks, Apart, Below, Some, block_count_around, block_count_outside, closed_apart, closed_over, covered_merged, merge_of, tight_down_merged, tight_up_merged, same_blocks, IsCovered, Graph, IsGraph, AreBlocks, IsMerge, IsPartition, complement_of, contracted, merged, IsTightAt, IsUnion, block_count}
use Rattle.tree_core.proofs.Common.{IsCutAt}
use Rattle.move_laws.proofs.CarriedCuts.{some_of}
use Rattle.move_laws.proofs.Rising.{bounds}
use Rattle.move_laws.proofs.CommutingMerges.{commute, swallow}

-- a partition as a block list whose quotient is covered
pub record Stage (g : Graph) (p : List (List ℕ)) : Type 0 where
  pub graph : IsGraph g
  pub list : IsPartition g.order p
  pub covered : IsCovered (contracted g p)

-- a tight shore with at least three blocks inside and three outside
pub record Big (g : Graph) (p : List (List ℕ)) (x : List ℕ) : Type 0 where
  pub shore : IsRisingIn g.order x
  pub tight : IsTightAt g p (mem x)
  pub inside : 3 ≤ block_count p (mem x)
  pub outside : 3 ≤ block_count p (mem (complement_of g.order x))

pub rest_rest : (n : ℕ) (x : List ℕ) → IsRisingIn n x → complement_of n (complement_of n x) ≡ x
rest_rest n x s = same_rising_list n (complement_of n (complement_of n x)) x (complement_of-rises n (complement_of n x)) s
    (λ v w. mem-complement_of n (complement_of n x) v w ∙ ap not (mem-complement_of n x v w) ∙ not_not (mem x v))

-- how many blocks are outside both
unfoldable pub gap : ℕ → List (List ℕ) → (x y : List ℕ) → ℕ
gap n p x y = block_count p (minus (mem (complement_of n y)) (mem x))

module _ (g : Graph) (p : List (List ℕ)) (stage : Stage g p) where
  pp : AreBlocks g.order p
  pp = stage.list.partition

  pub big_some : (x : List ℕ) → Big g p x → Some g.order (mem x)
  big_some x b = some_of g.order p pp (mem x) b.tight.union (let i = b.inside in omega arith)

  pub big_rest : (x : List ℕ) → Big g p x → Big g p (complement_of g.order x)
  big_rest x b = record {
    shore = complement_of-rises g.order x;
    tight = tight_congr g stage.graph p pp (complement (mem x)) (mem (complement_of g.order x)) (λ v w. sym (mem-complement_of g.order x v w)) (tight_rest g stage.graph p pp (mem x) b.tight);
    inside = b.outside;
    outside = subst (λ y. 3 ≤ block_count p (mem y)) (sym (rest_rest g.order x b.shore)) b.inside;
  }

  rest_number : (x : List ℕ) → IsUnion g.order p (mem x) → block_count p (complement (mem x)) ≡ block_count p (mem (complement_of g.order x))
  rest_number x u = block_count_congr g.order p pp (complement (mem x)) (mem (complement_of g.order x)) (λ v w. sym (mem-complement_of g.order x v w)) (union_rest g.order p pp (mem x) u)

  pub cut_big : (x : List ℕ) → IsRisingIn g.order x → IsCutAt g p x → Big g p x
  cut_big x s c =
      let a = block_count_rest g.order p pp (mem x) c.tight.union in let b = rest_number x c.tight.union in let o = c.nontrivial.outside in
      record { shore = s; tight = c.tight; inside = c.nontrivial.inside; outside = omega arith }

  pub big_cut : (x : List ℕ) → Big g p x → mem x g.order ≡ false → IsCutAt g p x
  big_cut x big canonical =
      let a = block_count_rest g.order p pp (mem x) big.tight.union in let b = rest_number x big.tight.union in let o = big.outside in
      record { set = big.shore; tight = big.tight; nontrivial = record { inside = big.inside; outside = omega arith }; canonical = canonical }

  pub big_merge : (x : List ℕ) → Big g p x → IsMerge g.order p (mem x) (merged p x)
  big_merge x b = merge_of g stage.graph p x pp b.tight (big_some x b) (bounds b.shore)

  pub stage_merged : (x : List ℕ) → Big g p x → Stage g (merged p x)
  stage_merged x b = record {
    graph = stage.graph;
    list = merged_blocks g.order p x stage.list b.tight.union b.shore.rising (big_some x b) (bounds b.shore);
    covered = covered_merged g stage.graph p x pp b.tight (big_some x b) (bounds b.shore) stage.covered;
  }

  -- an inner set and what is around it
  pub number_gap : (x y : Set) → IsUnion g.order p x → IsUnion g.order p y → Below g.order x y → block_count p y ≡ block_count p x + block_count p (minus y x)
  number_gap x y ux uy b =
      let a = block_count_parts g.order p pp y x uy ux in
      let c = block_count_congr g.order p pp (meet y x) x (λ v w. and_implied (y v) (x v) (b v w)) (union_meet g.order p pp y x uy ux) in omega arith

  -- x and y apart, and_implied closed at p: the numbers of blocks after merging x
  module _ (x y : List ℕ) (bx : Big g p x) (uy : IsUnion g.order p (mem y)) (apart : Apart g.order (mem x) (mem y)) where
    below_rest : Below g.order (mem x) (mem (complement_of g.order y))
    below_rest v w h = mem-complement_of g.order y v w ∙ ap not (apart v w h)

    pub apart_back : Apart g.order (mem y) (mem x)
    apart_back v w h = elim (cases_Bool (mem x v)) [ inr f ↦ f | inl t ↦ absurd (both_ways (mem y v) (apart v w t) h) ]

    urest : IsUnion g.order p (mem (complement_of g.order y))
    urest = union_congr g.order p pp (complement (mem y)) (mem (complement_of g.order y)) (λ v w. sym (mem-complement_of g.order y v w)) (union_rest g.order p pp (mem y) uy)

    pub closed_y : IsUnion g.order (merged p x) (mem y)
    closed_y = closed_apart g.order p (merged p x) (mem x) pp bx.tight.union (big_merge x bx) (mem y) uy apart

    pub closed_rest : IsUnion g.order (merged p x) (mem (complement_of g.order y))
    closed_rest = closed_over g.order p (merged p x) (mem x) pp bx.tight.union (big_merge x bx) (mem (complement_of g.order y)) urest below_rest

    pub same_number : block_count (merged p x) (mem y) ≡ block_count p (mem y)
    same_number = block_count_outside g.order p (merged p x) (mem x) pp bx.tight.union (big_merge x bx) (mem y) closed_y apart

    pub gap_is : block_count p (mem (complement_of g.order y)) ≡ block_count p (mem x) + gap g.order p x y
    unfolding gap
    gap_is = number_gap (mem x) (mem (complement_of g.order y)) bx.tight.union urest below_rest

    pub rest_after : block_count (merged p x) (mem (complement_of g.order y)) ≡ gap g.order p x y + 1
    rest_after =
        let a = block_count_around g.order p (merged p x) (mem x) pp bx.tight.union (big_merge x bx) (big_some x bx) (mem (complement_of g.order y)) closed_rest below_rest in
        let b = gap_is in omega arith

-- the gap of x and y is that of y and x
gap_turned : (g : Graph) (p : List (List ℕ)) (stage : Stage g p) (x y : List ℕ) (bx : Big g p x) (by : Big g p y) (a : Apart g.order (mem x) (mem y)) (b : Apart g.order (mem y) (mem x)) →
    gap g.order p x y ≡ gap g.order p y x
unfolding gap
gap_turned g p stage x y bx by a b = block_count_congr g.order p stage.list.partition (minus (mem (complement_of g.order y)) (mem x)) (minus (mem (complement_of g.order x)) (mem y))
    (λ v w. ap (λ k. k && not (mem x v)) (mem-complement_of g.order y v w) ∙ turn (mem x v) (mem y v) ∙ ap (λ k. k && not (mem y v)) (sym (mem-complement_of g.order x v w)))
    (union_minus g.order p stage.list.partition (mem (complement_of g.order y)) (mem x) (big_rest g p stage y by).tight.union bx.tight.union)
  where
    turn : (x y : Bool) → (not y && not x) ≡ (not x && not y)
    turn x y = grind arith

-- s1 big at p, s2 big at p with s1 merged, and the two apart
module _ (g : Graph) (p : List (List ℕ)) (stage : Stage g p) (x y : List ℕ) (bx : Big g p x) (byx : Big g (merged p x) y) (apart : Apart g.order (mem x) (mem y)) where
  is_part : AreBlocks g.order p
  is_part = stage.list.partition

  ty : IsTightAt g p (mem y)
  ty = tight_up_merged g stage.graph p x is_part bx.tight (big_some g p stage x bx) (bounds bx.shore) stage.covered (mem y) byx.tight

  pub big_y : Big g p y
  big_y =
      let a = same_number g p stage x y bx ty.union apart in let b = gap_is g p stage x y bx ty.union apart in let c = rest_after g p stage x y bx ty.union apart in
      let i = byx.inside in let o = byx.outside in let j = bx.inside in
      record { shore = byx.shore; tight = ty; inside = omega arith; outside = omega arith }

  back : Apart g.order (mem y) (mem x)
  back = apart_back g p stage x y bx ty.union apart

  pub big_x : Big g (merged p y) x
  big_x =
      let u = closed_y g p stage y x big_y bx.tight.union back in
      let t = tight_down_merged g stage.graph p y is_part big_y.tight (big_some g p stage y big_y) (bounds big_y.shore) stage.covered (mem x) bx.tight u in
      let a = same_number g p stage y x big_y bx.tight.union back in let b = rest_after g p stage y x big_y bx.tight.union back in
      let c = rest_after g p stage x y bx ty.union apart in
      let d = gap_turned g p stage x y bx big_y apart back in
      let i = bx.inside in let o = byx.outside in
      record { shore = bx.shore; tight = t; inside = omega arith; outside = omega arith }

-- the lists, for two big shores that are apart
module _ (g : Graph) (p : List (List ℕ)) (stage : Stage g p) (x y : List ℕ) (bx : Big g p x) (by : Big g p y) (byx : Big g (merged p x) y) (bxy : Big g (merged p y) x) (apart : Apart g.order (mem x) (mem y)) where
  sx : Stage g (merged p x)
  sx = stage_merged g p stage x bx

  sy : Stage g (merged p y)
  sy = stage_merged g p stage y by

  n : ℕ
  n = g.order

  pub commuted : merged (merged p x) y ≡ merged (merged p y) x
  commuted = same_blocks g.order (merged (merged p x) y) (merged (merged p y) x) (stage_merged g (merged p x) sx y byx).list (stage_merged g (merged p y) sy x bxy).list
      (commute g.order p (merged p x) (merged (merged p x) y) (merged p y) (merged (merged p y) x) (mem x) (mem y) stage.list.partition bx.tight.union by.tight.union sx.list.partition byx.tight.union sy.list.partition bxy.tight.union
      (big_merge g p stage x bx) (big_merge g (merged p x) sx y byx) (big_merge g p stage y by) (big_merge g (merged p y) sy x bxy))
      (commute g.order p (merged p y) (merged (merged p y) x) (merged p x) (merged (merged p x) y) (mem y) (mem x) stage.list.partition by.tight.union bx.tight.union sy.list.partition bxy.tight.union sx.list.partition byx.tight.union
      (big_merge g p stage y by) (big_merge g (merged p y) sy x bxy) (big_merge g p stage x bx) (big_merge g (merged p x) sx y byx))

  pub swallowed : merged (merged p x) (complement_of g.order y) ≡ merged p (complement_of g.order y)
  swallowed =
      let ry = big_rest g p stage y by in let ryx = big_rest g (merged p x) sx y byx in
      let f = swallow g.order p (merged p x) (merged (merged p x) (complement_of g.order y)) (merged p (complement_of g.order y)) (mem x) (mem (complement_of g.order y)) stage.list.partition bx.tight.union ry.tight.union sx.list.partition ryx.tight.union
      (λ v w h. mem-complement_of g.order y v w ∙ ap not (apart v w h)) (big_merge g p stage x bx) (big_merge g (merged p x) sx (complement_of g.order y) ryx) (big_merge g p stage (complement_of g.order y) ry) in
      same_blocks g.order _ _ (stage_merged g (merged p x) sx (complement_of g.order y) ryx).list (stage_merged g p stage (complement_of g.order y) ry).list f.0 f.1
