-- What stands below a cut: both partitions are partitions, their quotients are matching covered
-- where that of the node is, and each has one block for the merged side and the blocks of the
-- other side. So a tree of cuts has few leaves, by induction.
use Rattle.graph_core.proofs.from_counting.Common.{All-append, ◌≡◌, ℕ, zero, suc, ◌+◌, ◌*◌, ◌≤◌, List, length, All, refl, sym, ◌∙◌, arith, count_congr, count_complement, mem-within, member-of_set, true_all_in, count, mem, IsRisingIn, complement, everything}
use Rattle.graph_core.proofs.Common.{block_count_congr, block_count_rest, union_rest, complement_of-rises, mem-complement_of, block_count_around, merge_of, complement-tight, shore-some, contracted-singles, length-singles, singles-partition, IsCovered, Graph, IsGraph, IsPartition, block, complement_of, merged, singles, quotient, IsTightAt, block_count, blocks_in}
use Rattle.contraction.proofs.MergedQuotients.{merged-covered}
use Rattle.contraction.proofs.QuotientLaws.{covered_up}
use Rattle.tree_core.specs.Common.{Shape, leaf, cut, cut_count, leaf_count, IsCutAt, IsDerivation, IsDerivationAt, kept_at, merged_at, leaves, leaves_at}
use Rattle.tree_core.proofs.DerivationLeaves.{all-one}
use Rattle.tree_core.proofs.Sizes.{leaf_count-cuts}
use Rattle.tree_core.proofs.DerivationStands.{cut-below, cut-nonempty, partition-kept, partition-merged}

count-all : (n : ℕ) → count n everything ≡ n
count-all zero = refl
count-all (suc n) = omega (arith, count-all n)

all-blocks : (p : List (List ℕ)) → block_count p everything ≡ length p
all-blocks p = count_congr (length p) _ everything (λ i w. true_all_in (block p i) everything (λ v m. refl)) ∙ count-all (length p)

-- merging a tight shore leaves one block for those inside
length-merged : (g : Graph) (p : List (List ℕ)) (x : List ℕ) → IsGraph g → IsPartition g.order p → IsRisingIn g.order x → IsTightAt g p (mem x) → length (merged p x) + block_count p (mem x) ≡ length p + 1
length-merged g p x is pp rises tight =
    let some = member-of_set g.order x rises (shore-some g is p pp.partition x tight) in
    let merge = merge_of g is p x pp.partition tight some (mem-within g.order x rises) in
    let around = block_count_around g.order p (merged p x) (mem x) pp.partition tight.union merge some everything (λ u v wu wv e. refl) (λ v w h. refl) in
    let before = all-blocks p in
    let after = all-blocks (merged p x) in
    omega arith

-- at the single vertices of a covered graph the quotient is covered
pub root-covered : (g : Graph) (p : List (List ℕ)) → IsGraph g → p ≡ singles g.order → IsCovered g → IsCovered (quotient g p)
root-covered g p is e covered = grind (arith, covered_up, singles-partition, contracted-singles)

module _ (g : Graph) (p : List (List ℕ)) (x : List ℕ) (is : IsGraph g) (pp : IsPartition g.order p) (cuts : IsCutAt g p x) where
  pub kept-partition : IsPartition g.order (kept_at g.order p x)
  kept-partition = partition-kept g.order p x pp cuts.set (cut-nonempty g p x pp cuts) (cut-below g p x cuts) cuts.tight.union

  pub merged-partition : IsPartition g.order (merged_at g.order p x)
  merged-partition = partition-merged g.order p x pp cuts.set (cut-nonempty g p x pp cuts) cuts.tight.union

  pub kept-covers : IsCovered (quotient g p) → IsCovered (quotient g (kept_at g.order p x))
  kept-covers covered = merged-covered g p (complement_of g.order x) is pp.partition (complement_of-rises g.order x) (complement-tight g is p pp.partition x cuts.tight) covered

  pub merged-covers : IsCovered (quotient g p) → IsCovered (quotient g (merged_at g.order p x))
  merged-covers covered = merged-covered g p x is pp.partition cuts.set cuts.tight covered

  pub merged-length : length (merged_at g.order p x) + count (length p) (blocks_in p (mem x)) ≡ length p + 1
  merged-length = length-merged g p x is pp cuts.set cuts.tight

  pub kept-length : length (kept_at g.order p x) + count (length p) (complement (blocks_in p (mem x))) ≡ length p + 1
  kept-length =
      let a = length-merged g p (complement_of g.order x) is pp (complement_of-rises g.order x) (complement-tight g is p pp.partition x cuts.tight) in
      let b = block_count_rest g.order p pp.partition (mem x) cuts.tight.union in
      let c = block_count_congr g.order p pp.partition (complement (mem x)) (mem (complement_of g.order x)) (λ v w. sym (mem-complement_of g.order x v w)) (union_rest g.order p pp.partition (mem x) cuts.tight.union) in
      omega arith

-- at least four blocks stand on each side of a cut, and on both together two more than at it
pub blocks-below : (g : Graph) (p : List (List ℕ)) (x : List ℕ) (k m : ℕ) → IsCutAt g p x → k + count (length p) (complement (blocks_in p (mem x))) ≡ length p + 1 → m + count (length p) (blocks_in p (mem x)) ≡ length p + 1 →
    (4 ≤ k) × (4 ≤ m) × (k + m ≡ length p + 2)
blocks-below g p x k m cuts kept merged = grind (arith, count_complement (length p) (blocks_in p (mem x)))

-- c cuts stand at a partition with at least 2 c + 4 blocks, if it has at least four
pub few-cuts_at : (g : Graph) (p : List (List ℕ)) (t : Shape) → IsGraph g → IsPartition g.order p → IsDerivationAt g p t → 4 ≤ length p → 2 * cut_count t + 4 ≤ length p
few-cuts_at g p leaf is pp derives four = omega arith
few-cuts_at g p (cut x k m) is pp derives four =
    let cuts = derives.0 in
    let inside = cuts.nontrivial.inside in
    let outside = cuts.nontrivial.outside in
    let both = count_complement (length p) (blocks_in p (mem x)) in
    let a = kept-length g p x is pp cuts in
    let b = merged-length g p x is pp cuts in
    let kept = few-cuts_at g (kept_at g.order p x) k is (kept-partition g p x is pp cuts) derives.1 (omega arith) in
    let rest = few-cuts_at g (merged_at g.order p x) m is (merged-partition g p x is pp cuts) derives.2 (omega arith) in
    omega arith

pub few-leaves : (g : Graph) (t : Shape) → IsGraph g → IsDerivation g t → 4 ≤ g.order → 2 * leaf_count t + 2 ≤ g.order
few-leaves g t is derives four = grind (arith, length-singles g.order, few-cuts_at g (singles g.order) t is (singles-partition g.order) derives.derives, singles-partition g.order, leaf_count-cuts t)

-- the quotient at a partition is matching covered
abbrev pub HasCoveredQuotient : Graph → List (List ℕ) → Type 0
HasCoveredQuotient g p = IsCovered (quotient g p)

covered-leaves_at : (g : Graph) (p : List (List ℕ)) (t : Shape) → IsGraph g → IsPartition g.order p → IsCovered (quotient g p) → IsDerivationAt g p t → All (HasCoveredQuotient g) (leaves_at g.order p t)
covered-leaves_at g p leaf is pp covered derives = all-one (HasCoveredQuotient g) p covered
covered-leaves_at g p (cut x k m) is pp covered derives =
    let cuts = derives.0 in
    All-append (HasCoveredQuotient g) (leaves_at g.order (kept_at g.order p x) k) (leaves_at g.order (merged_at g.order p x) m)
    (covered-leaves_at g (kept_at g.order p x) k is (kept-partition g p x is pp cuts) (kept-covers g p x is pp cuts covered) derives.1)
    (covered-leaves_at g (merged_at g.order p x) m is (merged-partition g p x is pp cuts) (merged-covers g p x is pp cuts covered) derives.2)

pub covered-leaves : (g : Graph) (t : Shape) → IsGraph g → IsDerivation g t → All (λ (p : List (List ℕ)). IsCovered (quotient g p)) (leaves g.order t)
covered-leaves g t is derives = covered-leaves_at g (singles g.order) t is (singles-partition g.order) (root-covered g (singles g.order) is refl derives.covered) derives.derives
