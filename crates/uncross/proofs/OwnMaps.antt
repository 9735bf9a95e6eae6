-- The maps of the empty script, leaf by leaf: leaf i goes to leaf i, whose number has place i among
-- those of all leaves, and each of its blocks keeps its name.
use Rattle.graph_core.proofs.from_counting.Common.{◌≡◌, ℕ, zero, suc, ◌+◌, ◌<◌, List, [], ◌∷◌, ◌++◌, append_assoc, length, map, ap, ◌∙◌, arith, eq-eqb, ne_eqb, length-map, map-append}
use Rattle.move_laws.specs.from_contraction.Partition.{PartitionValue}
use Rattle.graph_core.proofs.Common.{names_of}
use Rattle.move_laws.proofs.Alignments.{numbers-split}
use Rattle.tree_core.proofs.Common.{length-leaves_at, PlainLeafMap, maps_from, numbers, own_maps, position, leaves, partitions_of, Shape, leaf_count}
use Rattle.uncross.proofs.FollowedMaps.{blocks-partitions}
use Rattle.uncross.specs.Common.{blocks_of, map_of, maps_of}
use Rattle.uncross.specs.declared.leaf_maps.LeafMap.{LeafMap}

numbers-front : (k n : ℕ) → numbers k (suc n) ≡ (k + 1) ∷ numbers (k + 1) n
numbers-front k n = let e : suc n ≡ 1 + n = omega arith in ap (numbers k) e ∙ numbers-split k 1 n

position-numbers : (k n j : ℕ) → j < n → position (numbers k n) (k + j + 1) ≡ j + 1
position-numbers k zero j l = absurd (omega arith)
position-numbers k (suc n) zero l = grind (arith, numbers-front k n, eq-eqb (k + 1) (k + zero + 1))
position-numbers k (suc n) (suc j) l = grind (arith, numbers-front k n, ne_eqb (k + 1) (k + suc j + 1), position-numbers (k + 1) n j (omega arith))

-- so far, of a tree with c leaves, where the next goes to the place after `to`
abbrev pub IsOwnSoFar : (c : ℕ) (own : List PlainLeafMap) (maps : List LeafMap) (to : ℕ) (rest : List PartitionValue) → Type 0
IsOwnSoFar c own maps to rest = (own ≡ maps_of maps ++ maps_from (numbers 0 c) to (map names_of (blocks_of rest))) × (to + length rest ≡ c)

-- at the first leaf
pub own-first : (n : ℕ) (t : Shape) (maps : List LeafMap) (rest : List PartitionValue) → maps ≡ [] → rest ≡ partitions_of n (leaves n t) → IsOwnSoFar (leaf_count t) (own_maps n t) maps 0 rest
own-first n t maps rest none are = grind (arith, length-map, length-leaves_at, blocks-partitions)

-- one leaf more
pub own-next : (c : ℕ) (own : List PlainLeafMap) (maps after : List LeafMap) (to : ℕ) (rest others : List PartitionValue) (q : PartitionValue) (names : List ℕ) →
    IsOwnSoFar c own maps to rest → rest ≡ q ∷ others → names ≡ names_of q.blocks → after ≡ maps ++ record { to = to + 1; images = names } ∷ [] → IsOwnSoFar c own after (to + 1) others
own-next c own maps after to rest others q names so_far front e pushed = grind (arith, position-numbers 0 c to, append_assoc (maps_of maps), map-append map_of maps)
