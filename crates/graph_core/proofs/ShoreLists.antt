-- A tight shore as a list: it is not empty, and the list of the other numbers is the other shore,
-- which is tight as well. An odd number of blocks is at least one, and each block has a vertex.
use Rattle.vset_core.proofs.from_counting.Common.{ℕ, ◌<◌, ◌≤◌, List, length, sym, arith, bit_true, some-member, odd_pos, all_in_true, some_term, bit, count, mem, complement}
use Rattle.graph_core.proofs.BlockSets.{tight_congr, tight_rest}
use Rattle.graph_core.proofs.Complements.{mem-complement_of}
use Rattle.graph_core.specs.Common.{Graph, IsGraph, AreBlocks, block, complement_of, contracted, IsTightAt, blocks_in}

module _ (g : Graph) (is : IsGraph g) (p : List (List ℕ)) (pp : AreBlocks g.order p) (x : List ℕ) (tight : IsTightAt g p (mem x)) where
  pub shore-some : 0 < length x
  unfolding contracted
  shore-some =
      let o : 1 ≤ count (length p) (blocks_in p (mem x)) = odd_pos (count (length p) (blocks_in p (mem x))) tight.tight.odd in
      let r = some_term (length p) (λ i. bit (blocks_in p (mem x) i)) (omega arith) in
      let f = pp.full r.0 r.1 in
      some-member x f.0 (all_in_true (block p r.0) (mem x) (bit_true (blocks_in p (mem x) r.0) r.2) f.0 f.2)

  pub complement-tight : IsTightAt g p (mem (complement_of g.order x))
  complement-tight = tight_congr g is p pp (complement (mem x)) (mem (complement_of g.order x)) (λ v w. sym (mem-complement_of g.order x v w)) (tight_rest g is p pp (mem x) tight)
