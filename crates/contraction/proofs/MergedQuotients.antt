-- The law of contraction for quotients, for both shores of a tight cut. The quotient is matching
-- covered if and only if the contraction is, and the complement of a tight shore is a tight shore.
use Rattle.graph_core.proofs.from_counting.Common.{ℕ, List, mem-within, member-of_set, IsRisingIn, mem, Set}
use Rattle.graph_core.proofs.Common.{covered_merged, merge_of, tight_down_merged, tight_up_merged, shore-some, IsCovered, Graph, IsGraph, AreBlocks, merged, quotient, IsTightAt, IsUnion}
use Rattle.contraction.proofs.QuotientLaws.{covered_down, covered_up}

module _ (g : Graph) (p : List (List ℕ)) (x : List ℕ) (is : IsGraph g) (pp : AreBlocks g.order p) (rises : IsRisingIn g.order x) (tight : IsTightAt g p (mem x)) where
  pub merged-blocks : AreBlocks g.order (merged p x)
  merged-blocks = (merge_of g is p x pp tight (member-of_set g.order x rises (shore-some g is p pp x tight)) (mem-within g.order x rises)).partition

  module _ (covered : IsCovered (quotient g p)) where
    pub merged-covered : IsCovered (quotient g (merged p x))
    merged-covered = covered_up g (merged p x) is merged-blocks
        (covered_merged g is p x pp tight (member-of_set g.order x rises (shore-some g is p pp x tight)) (mem-within g.order x rises) (covered_down g p is pp covered))

    pub tight-before : (y : Set) → IsTightAt g (merged p x) y → IsTightAt g p y
    tight-before = tight_up_merged g is p x pp tight (member-of_set g.order x rises (shore-some g is p pp x tight)) (mem-within g.order x rises) (covered_down g p is pp covered)

    pub tight-after : (y : Set) → IsTightAt g p y → IsUnion g.order (merged p x) y → IsTightAt g (merged p x) y
    tight-after = tight_down_merged g is p x pp tight (member-of_set g.order x rises (shore-some g is p pp x tight)) (mem-within g.order x rises) (covered_down g p is pp covered)
