-- The shores of a derivation stand where they should: at each node the blocks are a partition, so
-- that a nontrivial shore is a nonempty union of blocks, and merging it or its complement leaves
-- a partition again. By induction down the tree.
use Rattle.graph_core.proofs.from_counting.Common.{◌≡◌, ℕ, ◌-◌, ◌<◌, List, [], ◌∷◌, length, All, arith, refl, ◌∙◌, Within, bit, count, none, mem, IsRisingIn, mem-within, member-of_set, count_congr, total_none}
use Rattle.graph_core.proofs.Common.{Graph, IsPartition, complement_of, merged, singles, IsUnion, blocks_in, in_union, complement_of-rises, union-complement_of, merged_blocks, singles-partition}
use Rattle.tree_core.specs.Common.{Shape, leaf, cut, Fits, IsCutAt, IsDerivationAt, IsDerivation, kept_at, merged_at, StandsAt}
use Rattle.tree_core.proofs.Shores.{below-without_greatest, complement-nonempty}

-- no block is in the empty set
nothing-in_empty : (n : ℕ) (p : List (List ℕ)) → IsPartition n p → IsUnion n p (mem []) → count (length p) (blocks_in p (mem [])) ≡ 0
nothing-in_empty n p is union =
    count_congr (length p) (blocks_in p (mem [])) none (λ i within. let v = is.partition.full i within in in_union n p (mem []) is.partition union i v.0 within v.2)
    ∙ total_none (length p) (λ v. bit (none v)) (λ v within. refl)

-- a nontrivial shore is not empty
pub cut-nonempty : (g : Graph) (p : List (List ℕ)) (x : List ℕ) → IsPartition g.order p → IsCutAt g p x → 0 < length x
cut-nonempty g p [] is cuts = let inside = cuts.nontrivial.inside in let none = nothing-in_empty g.order p is cuts.tight.union in omega arith
cut-nonempty g p (v ∷ x) is cuts = omega arith

-- a canonical shore lies below n
pub cut-below : (g : Graph) (p : List (List ℕ)) (x : List ℕ) → IsCutAt g p x → All (Within (g.order - 1)) x
cut-below g p x cuts = below-without_greatest g.order x cuts.set cuts.canonical

-- merging a nonempty union of blocks leaves a partition
pub partition-merged : (n : ℕ) (p : List (List ℕ)) (x : List ℕ) → IsPartition n p → IsRisingIn n x → 0 < length x → IsUnion n p (mem x) → IsPartition n (merged p x)
partition-merged n p x is rises some union = merged_blocks n p x is union rises.rising (member-of_set n x rises some) (mem-within n x rises)

-- and so does merging what a nonempty union below n leaves of 1 to n
pub partition-kept : (n : ℕ) (p : List (List ℕ)) (x : List ℕ) → IsPartition n p → IsRisingIn n x → 0 < length x → All (Within (n - 1)) x → IsUnion n p (mem x) → IsPartition n (kept_at n p x)
partition-kept n p x is rises some below union =
    partition-merged n p (complement_of n x) is (complement_of-rises n x) (complement-nonempty n x rises some below) (union-complement_of n p x union)

-- a derivation at a partition fits, and its shores stand where they should
pub stands-derivation_at : (g : Graph) (p : List (List ℕ)) (t : Shape) → IsPartition g.order p → IsDerivationAt g p t → Fits g.order t × StandsAt g.order p t
stands-derivation_at g p leaf is derives = (tt, tt)
stands-derivation_at g p (cut x k m) is derives =
    let cuts = derives.0 in
    let some = cut-nonempty g p x is cuts in
    let below = cut-below g p x cuts in
    let kept = stands-derivation_at g (kept_at g.order p x) k (partition-kept g.order p x is cuts.set some below cuts.tight.union) derives.1 in
    let merged = stands-derivation_at g (merged_at g.order p x) m (partition-merged g.order p x is cuts.set some cuts.tight.union) derives.2 in
    ((below, kept.0, merged.0), (cuts.set, some, cuts.tight.union, kept.1, merged.1))

pub fits-derivation : (g : Graph) (t : Shape) → IsDerivation g t → Fits g.order t
fits-derivation g t is = (stands-derivation_at g (singles g.order) t (singles-partition g.order) is.derives).0

pub stands-derivation : (g : Graph) (t : Shape) → IsDerivation g t → StandsAt g.order (singles g.order) t
stands-derivation g t is = (stands-derivation_at g (singles g.order) t (singles-partition g.order) is.derives).1
