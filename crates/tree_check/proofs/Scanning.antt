-- Steps of the scan of a tree: what is found below a cut, said of the tree that the cut makes;
-- and the numbers of its nodes and leaves, which stay below those of the blocks.
use Rattle.graph_core.proofs.from_counting.Common.{◌≡◌, ℕ, ◌+◌, ◌*◌, ◌≤◌, List, length, refl, arith, subst₂, inl, inr, count, mem}
use Rattle.graph_core.proofs.Common.{Graph, IsGraph, IsCovered, IsPartition, singles, blocks_in}
use Rattle.tree_core.proofs.Common.{blocks-below, few-cuts_at, kept-length, kept-partition, merged-length, merged-partition, leaf_count-cuts, node_count-cuts, IsCutAt, PlaceValue, kept_at, leaves_at, merged_at, Shape, cut, node_count}
use Rattle.tree_core.specs.declared.tallies.Tally.{Tally}
use Rattle.tree_check.proofs.CountedLeaves.{leaves-counted, tally-both}
use Rattle.tree_check.specs.Common.{IsScanResult, IsScannedAt, sum_of}
use Rattle.tree_check.specs.declared.judgement.Why.{Why as StoredWhy}
use Rattle.tree_check.specs.declared.judgement.Scanned.{Scanned}
use Rattle.tree_check.specs.declared.judgement.Scanned.TheVariants as scanned

-- what is found at a place, said of its graph and partition
pub found-at : (g : Graph) (p : List (List ℕ)) (place : PlaceValue) (t : Shape) (node : ℕ) (found : Scanned) → place.graph ≡ g → place.blocks ≡ p → IsScannedAt place.graph place.blocks t node found → IsScannedAt g p t node found
found-at g p place t node found graph blocks is = subst₂ (λ (h : Graph) (q : List (List ℕ)). IsScannedAt h q t node found) graph blocks is

-- a derivation has less than half as many leaves as its partition has blocks
few-found : (g : Graph) (p : List (List ℕ)) (t : Shape) (node : ℕ) (tally : Tally) → IsGraph g → IsPartition g.order p → 4 ≤ length p → IsScannedAt g p t node (scanned.Passed tally) → 2 * tally.leaves + 2 ≤ length p
few-found g p t node tally is pp four found = grind (arith, leaves-counted g g.order p t tally found.1, few-cuts_at g p t is pp found.0 four, leaf_count-cuts t)

-- the two trees below a cut have few leaves, for the numbers of blocks at the cut and below it
module _ (g : Graph) (p : List (List ℕ)) (x : List ℕ) (is : IsGraph g) (pp : IsPartition g.order p) (cuts : IsCutAt g p x) where
  room : (4 ≤ length (kept_at g.order p x)) × (4 ≤ length (merged_at g.order p x)) × (length (kept_at g.order p x) + length (merged_at g.order p x) ≡ length p + 2)
  room = blocks-below g p x (length (kept_at g.order p x)) (length (merged_at g.order p x)) cuts (kept-length g p x is pp cuts) (merged-length g p x is pp cuts)

  module _ (t : Shape) (node : ℕ) (tally : Tally) (found : IsScannedAt g (kept_at g.order p x) t node (scanned.Passed tally)) where
    pub few-kept : 2 * tally.leaves + 2 ≤ length p
    few-kept =
        let few = few-found g (kept_at g.order p x) t node tally is (kept-partition g p x is pp cuts) room.0 found in
        let a = room.1 in
        let sum = room.2 in
        omega arith

    pub few-beside : (m : ℕ) → m + count (length p) (blocks_in p (mem x)) ≡ length p + 1 → 2 * tally.leaves + m ≤ length p
    few-beside m beside =
        let few = few-found g (kept_at g.order p x) t node tally is (kept-partition g p x is pp cuts) room.0 found in
        let a = merged-length g p x is pp cuts in
        let sum = room.2 in
        omega arith

  pub few-merged : (t : Shape) (node : ℕ) (tally : Tally) → IsScannedAt g (merged_at g.order p x) t node (scanned.Passed tally) → 2 * tally.leaves + 2 ≤ length p
  few-merged t node tally found =
      let few = few-found g (merged_at g.order p x) t node tally is (merged-partition g p x is pp cuts) room.1 found in
      let a = room.0 in
      let sum = room.2 in
      omega arith

-- what is found below a cut
module _ (g : Graph) (p : List (List ℕ)) (x : List ℕ) (k m : Shape) (node : ℕ) where
  module _ (cuts : IsCutAt g p x) where
    pub refused-kept : (number : ℕ) (why : StoredWhy) → IsScannedAt g (kept_at g.order p x) k (node + 1) (scanned.Refused number why) → IsScannedAt g p (cut x k m) node (scanned.Refused number why)
    refused-kept number why found = (1 + found.0, omega (arith, found.1), inr (inl (cuts, (found.0, refl, found.2))))

    -- the kept tree passed with so many leaves
    module _ (inside : Tally) (kept : IsScannedAt g (kept_at g.order p x) k (node + 1) (scanned.Passed inside)) where
      pub refused-merged : (number : ℕ) (why : StoredWhy) → IsScannedAt g (merged_at g.order p x) m (node + 2 * inside.leaves) (scanned.Refused number why) → IsScannedAt g p (cut x k m) node (scanned.Refused number why)
      refused-merged number why found =
          let leaves = leaves-counted g g.order (kept_at g.order p x) k inside kept.1 in
          let nodes = node_count-cuts k in
          let cuts_k = leaf_count-cuts k in (
            1 + node_count k + found.0,
            omega (arith, found.1),
            inr (inr (cuts, kept.0, (found.0, refl, found.2))),
          )

      pub passed-both : (outside : Tally) → IsScannedAt g (merged_at g.order p x) m (node + 2 * inside.leaves) (scanned.Passed outside) → IsScannedAt g p (cut x k m) node (scanned.Passed (sum_of inside outside))
      passed-both outside found = grind (arith, tally-both g (leaves_at g.order (kept_at g.order p x) k) (leaves_at g.order (merged_at g.order p x) m) inside outside kept.1 found.1)

-- what a scan from the root finds
pub scanned-root : (g : Graph) (t : Shape) (found : Scanned) → IsCovered g → IsScannedAt g (singles g.order) t 1 found → IsScanResult g t found
scanned-root g t h covered found = grind arith
