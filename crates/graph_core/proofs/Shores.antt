-- The law of contraction for shores at a partition and at a merge of it. A union of the new
-- blocks is a union of the old ones, block by block, so the contracted graphs can be compared.
use Rattle.vset_core.proofs.from_counting.Common.{◌≡◌, ℕ, sym, ap, ◌∙◌, List, Within, Set}
use Rattle.graph_core.proofs.Blocks.{carried, carries, contracted-graph, first, in_first, in_union, merges, place_in}
use Rattle.graph_core.proofs.Contraction.{covered_down, tight_down, tight_from_cut, tight_up}
use Rattle.graph_core.proofs.Decide.{covered_perfect}
use Rattle.graph_core.proofs.SameSets.{cut_congr}
use Rattle.graph_core.specs.Common.{IsCovered, Graph, IsGraph, AreBlocks, IsMerge, block, contracted, place, IsTightAt, IsUnion, blocks_in}

module _ (g : Graph) (is : IsGraph g) (p q : List (List ℕ)) (x : Set) (pp : AreBlocks g.order p) (tx : IsTightAt g p x) (merge : IsMerge g.order p x q) (cov : IsCovered (contracted g p)) where
  down : IsCovered (contracted g q)
  down = covered_down (contracted g p) (contracted-graph g p is pp) (blocks_in p x) (contracted g q) (carried p q) merge.new.0 (merges g is p q x pp tx.union merge) tx.tight cov

  union_up : (y : Set) → IsUnion g.order q y → IsUnion g.order p y
  union_up y u a b wa wb e = u a b wa wb (carries g is p q x pp tx.union merge a wa ∙ ap (carried p q) e ∙ sym (carries g is p q x pp tx.union merge b wb))

  -- a union of blocks of q, block by block of p
  same_blocks : (y : Set) → IsUnion g.order q y → (i : ℕ) → Within (contracted g p).order i → blocks_in q y (carried p q i) ≡ blocks_in p y i
  unfolding contracted
  same_blocks y u i w =
      let f = in_first g is p q x pp tx.union merge i w in
      let l = place_in g.order q merge.partition (first (block p i)) f.0 in
      in_union g.order q y merge.partition u (place q (first (block p i))) (first (block p i)) l.0 l.1
      ∙ sym (in_union g.order p y pp (union_up y u) i (first (block p i)) w f.1)

  -- a shore that is tight at q is tight at p
  pub shore_up : (y : Set) → IsTightAt g q y → IsTightAt g p y
  shore_up y t = let m = covered_perfect (contracted g p) (contracted-graph g p is pp) cov in record {
    union = union_up y t.union;
    tight = tight_from_cut (contracted g p) (blocks_in p y) m.0 (contracted-graph g p is pp) m.1
        (cut_congr (contracted g p) _ _ (contracted-graph g p is pp) (same_blocks y t.union)
        (tight_up (contracted g p) (contracted-graph g p is pp) (blocks_in p x) (contracted g q) (carried p q) merge.new.0 (merges g is p q x pp tx.union merge) tx.tight.cut (blocks_in q y) t.tight.cut));
  }

  -- a shore that is tight at p and a union of blocks of q is tight at q
  pub shore_down : (y : Set) → IsTightAt g p y → IsUnion g.order q y → IsTightAt g q y
  shore_down y t u = let m = covered_perfect (contracted g q) (contracted-graph g q is merge.partition) down in record {
    union = u;
    tight = tight_from_cut (contracted g q) (blocks_in q y) m.0 (contracted-graph g q is merge.partition) m.1
        (tight_down (contracted g p) (contracted-graph g p is pp) (blocks_in p x) (contracted g q) (carried p q) merge.new.0 (merges g is p q x pp tx.union merge) tx.tight cov (blocks_in q y)
        (cut_congr (contracted g p) _ _ (contracted-graph g p is pp) (λ i w. sym (same_blocks y u i w)) t.tight.cut));
  }
