-- Unions of blocks before and after a merge, how many blocks they hold, and the law of
-- contraction for them. The merged blocks are one block then, and all others stay.
use Rattle.vset_core.proofs.from_counting.Common.{◌≡◌, ℕ, ◌+◌, ◌≢◌, true, false, sym, ap, ◌∙◌, arith, ◌⊎◌, inl, inr, List, length, cases_Bool, both_ways, total_at, and_implied, but_not, Within, bit, mem, Set, meet, minus}
use Rattle.graph_core.proofs.BlockSets.{at_place, at_rep, block_count_congr, block_count_parts, count_over, place_rep, rep, rep_in, rep_place, union_meet, union_minus}
use Rattle.graph_core.proofs.Blocks.{carried, contracted-graph, merges, place_in, place_is}
use Rattle.graph_core.proofs.Contraction.{covered_down}
use Rattle.graph_core.proofs.Merging.{merged_merges}
use Rattle.graph_core.proofs.Shores.{shore_down, shore_up}
use Rattle.graph_core.specs.Common.{IsCovered, Graph, IsGraph, AreBlocks, IsMerge, contracted, merged, place, block_count, IsTightAt, IsUnion, blocks_in}

-- What merging a union of blocks does to blocks, unions and numbers.

-- x is inside y, x and y have no common vertex
abbrev pub Below : ℕ → Set → Set → Type 0
Below n x y = (v : ℕ) → Within n v → x v ≡ true → y v ≡ true

abbrev pub Apart : ℕ → Set → Set → Type 0
Apart n x y = (v : ℕ) → Within n v → x v ≡ true → y v ≡ false

abbrev pub Some : ℕ → Set → Type 0
Some n x = (v : ℕ) × Within n v × (x v ≡ true)

module _ (n : ℕ) (p q : List (List ℕ)) (x : Set) (pp : AreBlocks n p) (ux : IsUnion n p x) (merge : IsMerge n p x q) where
  new_place : (v : ℕ) → Within n v → x v ≡ true → place q v ≡ merge.new.0
  new_place v w t = sym (place_is n q merge.partition v merge.new.0 w merge.new.1 (merge.new.2 v w ∙ t))

  pub alike_in : (u v : ℕ) → Within n u → Within n v → x u ≡ true → x v ≡ true → place q u ≡ place q v
  alike_in u v wu wv tu tv = new_place u wu tu ∙ sym (new_place v wv tv)

  pub alike_up : (u v : ℕ) → Within n u → Within n v → place p u ≡ place p v → place q u ≡ place q v
  alike_up u v wu wv e = grind (arith, alike_in)

  pub same_side : IsUnion n q x
  same_side u v wu wv e = grind (arith, new_place, place_in, both_ways)

  pub alike_down : (u v : ℕ) → Within n u → Within n v → x u ≡ false → place q u ≡ place q v → place p u ≡ place p v
  alike_down u v wu wv f e = (merge.old u v wu wv f (sym (same_side u v wu wv e) ∙ f)).0 e

  -- a union of new blocks is one of old blocks
  pub closed_up : (y : Set) → IsUnion n q y → IsUnion n p y
  closed_up y uy u v wu wv e = uy u v wu wv (alike_up u v wu wv e)

  -- and the other way for one that x is inside of, or apart from
  pub closed_over : (y : Set) → IsUnion n p y → Below n x y → IsUnion n q y
  closed_over y uy b u v wu wv e = grind (arith, same_side, alike_down)

  pub closed_apart : (y : Set) → IsUnion n p y → Apart n x y → IsUnion n q y
  closed_apart y uy b u v wu wv e = grind (arith, same_side, alike_down)

  -- which of the two holds for a union of new blocks
  pub inside_or_apart : Some n x → (y : Set) → IsUnion n q y → Below n x y ⊎ Apart n x y
  inside_or_apart s y uy = grind (arith, cases_Bool (y s.0), alike_in)

  -- numbers of blocks
  pub block_count_outside : (y : Set) → IsUnion n q y → Apart n x y → block_count q y ≡ block_count p y
  block_count_outside y uy a = count_over (length q) (length p) (blocks_in q y) (blocks_in p y) (λ j. place p (rep q j)) (λ i. place q (rep p i)) there back
    where
      qp : AreBlocks n q
      qp = merge.partition

      out : (v : ℕ) → Within n v → y v ≡ true → x v ≡ false
      out v w t = elim (cases_Bool (x v)) [ inr f ↦ f | inl h ↦ absurd (both_ways (y v) (a v w h) t) ]

      there : (j : ℕ) → Within (length q) j → blocks_in q y j ≡ true → Within (length p) (place p (rep q j)) × (blocks_in p y (place p (rep q j)) ≡ true) × (place q (rep p (place p (rep q j))) ≡ j)
      there j w t =
          let v = rep q j in let wv = (rep_in n q qp j w).0 in let yv : y v ≡ true = sym (at_rep n q qp y uy j w) ∙ t in
          let i = place p v in let wi = (place_in n p pp v wv).0 in let wr = (rep_in n p pp i wi).0 in
          (wi, at_place n p pp y (closed_up y uy) v wv ∙ yv, alike_up (rep p i) v wr wv (place_rep n p pp v wv) ∙ rep_place n q qp j w)

      back : (i : ℕ) → Within (length p) i → blocks_in p y i ≡ true → Within (length q) (place q (rep p i)) × (blocks_in q y (place q (rep p i)) ≡ true) × (place p (rep q (place q (rep p i))) ≡ i)
      back i w t =
          let v = rep p i in let wv = (rep_in n p pp i w).0 in let yv : y v ≡ true = sym (at_rep n p pp y (closed_up y uy) i w) ∙ t in
          let j = place q v in let wj = (place_in n q qp v wv).0 in let wr = (rep_in n q qp j wj).0 in
          let e : place q (rep q j) ≡ place q v = place_rep n q qp v wv in
          (wj, at_place n q qp y uy v wv ∙ yv, sym (alike_down v (rep q j) wv wr (out v wv yv) (sym e)) ∙ rep_place n p pp i w)

  pub block_count_new : Some n x → block_count q x ≡ 1
  block_count_new s =
      total_at (length q) (λ i. bit (blocks_in q x i)) merge.new.0 merge.new.1 (λ i w d. ap bit (other i w d))
      ∙ ap bit (ap (blocks_in q x) (sym (new_place s.0 s.1 s.2)) ∙ at_place n q merge.partition x same_side s.0 s.1 ∙ s.2)
    where
      other : (i : ℕ) → Within (length q) i → i ≢ merge.new.0 → blocks_in q x i ≡ false
      other i w d = elim (cases_Bool (blocks_in q x i)) [
        | inr f ↦ f
        | inl t ↦ absurd (d (sym (rep_place n q merge.partition i w) ∙ new_place (rep q i) (rep_in n q merge.partition i w).0 (sym (at_rep n q merge.partition x same_side i w) ∙ t)))
      ]

  pub block_count_around : Some n x → (y : Set) → IsUnion n q y → Below n x y → block_count q y + block_count p x ≡ block_count p y + 1
  block_count_around s y uy b =
      let uyp = closed_up y uy in
      let a = block_count_parts n q merge.partition y x uy same_side in
      let c = block_count_parts n p pp y x uyp ux in
      let d = block_count_outside (minus y x) (union_minus n q merge.partition y x uy same_side) (λ v w h. but_not (y v) (x v) h) in
      let e = block_count_congr n q merge.partition (meet y x) x (λ v w. and_implied (y v) (x v) (b v w)) (union_meet n q merge.partition y x uy same_side) in
      let f = block_count_congr n p pp (meet y x) x (λ v w. and_implied (y v) (x v) (b v w)) (union_meet n p pp y x uyp ux) in
      let k = block_count_new s in
      omega arith

-- the contraction law at p, with the merged list
module _ (g : Graph) (is : IsGraph g) (p : List (List ℕ)) (x : List ℕ) (pp : AreBlocks g.order p) (tx : IsTightAt g p (mem x)) (some : Some g.order (mem x)) (low : (v : ℕ) → mem x v ≡ true → Within g.order v) where
  pub merge_of : IsMerge g.order p (mem x) (merged p x)
  merge_of = merged_merges g.order p x pp tx.union some low

  pub covered_merged : IsCovered (contracted g p) → IsCovered (contracted g (merged p x))
  covered_merged cov = covered_down (contracted g p) (contracted-graph g p is pp) (blocks_in p (mem x)) (contracted g (merged p x)) (carried p (merged p x)) merge_of.new.0 (merges g is p (merged p x) (mem x) pp tx.union merge_of) tx.tight cov

  pub tight_up_merged : IsCovered (contracted g p) → (y : Set) → IsTightAt g (merged p x) y → IsTightAt g p y
  tight_up_merged cov = shore_up g is p (merged p x) (mem x) pp tx merge_of cov

  pub tight_down_merged : IsCovered (contracted g p) → (y : Set) → IsTightAt g p y → IsUnion g.order (merged p x) y → IsTightAt g (merged p x) y
  tight_down_merged cov = shore_down g is p (merged p x) (mem x) pp tx merge_of cov
