-- A derivation of a graph within the limits has at most 127 nodes, since there are few leaves
-- where the graph has at least four vertices, and no cut where it has fewer. Its leaves are
-- partitions of the graph's vertices.
use Rattle.graph_core.proofs.from_counting.Common.{◌≡◌, ℕ, ◌≤◌, ◌<◌, List, [], ◌∷◌, length, map, ap, refl, arith, suc, cases_lt, count_complement, mem}
use Rattle.graph_core.proofs.Common.{Graph, IsGraph, singles, blocks_in, length-singles}
use Rattle.contraction.specs.Partition.{PartitionValue}
use Rattle.tree_core.specs.Common.{IsDerivation, IsDerivationAt, leaves, partitions_of, Shape, leaf, cut, node_count}
use Rattle.tree_core.proofs.CutsBelow.{few-leaves}
use Rattle.tree_core.proofs.Sizes.{leaf_count-cuts, node_count-cuts, length-leaves_at}

-- a cut has at least three blocks on either side
few-without_cut : (g : Graph) (t : Shape) → g.order < 4 → IsDerivationAt g (singles g.order) t → node_count t ≤ 127
few-without_cut g leaf small is = omega arith
few-without_cut g (cut x k m) small is = grind (arith, count_complement (length (singles g.order)) (blocks_in (singles g.order) (mem x)), length-singles g.order)

pub few-nodes : (g : Graph) (t : Shape) → IsGraph g → g.order ≤ 128 → IsDerivation g t → node_count t ≤ 127
few-nodes g t is few derived = grind (arith, cases_lt g.order 4, few-without_cut g t, few-leaves g t is derived, leaf_count-cuts t, node_count-cuts t)

-- and so there are few leaves
pub few-leaves_listed : (n : ℕ) (t : Shape) → node_count t ≤ 127 → length (partitions_of n (leaves n t)) ≤ 127
few-leaves_listed n t few = grind (arith, length-leaves_at n (singles n) t, leaf_count-cuts t, node_count-cuts t, length-partitions n (leaves n t))
  where
    length-partitions : (n : ℕ) (ps : List (List (List ℕ))) → length (partitions_of n ps) ≡ length ps
    length-partitions n [] = refl
    length-partitions n (p ∷ ps) = ap suc (length-partitions n ps)

-- and has the blocks of the leaf
pub blocks-of_leaves : (n : ℕ) (ps : List (List (List ℕ))) → map (λ (p : PartitionValue). p.blocks) (partitions_of n ps) ≡ ps
blocks-of_leaves n [] = refl
blocks-of_leaves n (p ∷ ps) = ap (λ (qs : List (List (List ℕ))). p ∷ qs) (blocks-of_leaves n ps)
