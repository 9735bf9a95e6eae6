-- The kinds of the leaves of a list grow by that of one leaf, and at the end are those of all.
-- What stands at the places before stays where an item is appended; the new one comes next.
use Rattle.graph_core.proofs.from_counting.Common.{◌≡◌, ℕ, ◌+◌, ◌-◌, List, [], ◌∷◌, ◌++◌, length, map, ap, ◌∙◌, get_or, slice_get, Some, arith, option_map, get_or-append, slice_get-map, get_or-append_seam, cases_lt, length-append, length-map, get_or_from_slice_get, Within}
use Rattle.contraction.specs.Partition.{PartitionValue}
use Rattle.graph_core.proofs.Common.{Graph}
use Rattle.tree_core.specs.Common.{leaf_at, AreLeafKinds, IsLeafKind, kind_at}
use Rattle.tree_core.specs.declared.tallies.LeafKind.{LeafKind}
use Rattle.tree_core.specs.declared.tallies.LeafKind.TheVariants.{Brick}

-- the kinds so far, with that of the next leaf
pub kinds-more : (g : Graph) (ps : List (List (List ℕ))) (i : ℕ) (kinds : List LeafKind) (kind : LeafKind) → length kinds ≡ i →
    ((j : ℕ) → Within i j → IsLeafKind g (leaf_at ps j) (kind_at kinds j)) → IsLeafKind g (get_or ps i []) kind →
    (j : ℕ) → Within (i + 1) j → IsLeafKind g (leaf_at ps j) (kind_at (kinds ++ kind ∷ []) j)
kinds-more g ps i kinds kind e before here j w = grind (arith, cases_lt (j - 1) i, get_or-append kinds (kind ∷ []) Brick (j - 1), get_or-append_seam kinds kind)

-- the blocks of the partition at a place
pub blocks-at : (found : List PartitionValue) (i : ℕ) (p : PartitionValue) → slice_get found i ≡ Some p → get_or (map (λ (q : PartitionValue). q.blocks) found) i [] ≡ p.blocks
blocks-at found i p is =
    get_or_from_slice_get (map (λ (q : PartitionValue). q.blocks) found) i p.blocks []
    (slice_get-map (λ (q : PartitionValue). q.blocks) found i ∙ ap (option_map (λ (q : PartitionValue). q.blocks)) is)

-- the same of a list of kinds that has one more
pub kinds-next : (g : Graph) (leaves : List PartitionValue) (i : ℕ) (p : PartitionValue) (kinds more : List LeafKind) (kind : LeafKind) → slice_get leaves i ≡ Some p → more ≡ kinds ++ kind ∷ [] → length kinds ≡ i →
    ((j : ℕ) → Within i j → IsLeafKind g (leaf_at (map (λ (q : PartitionValue). q.blocks) leaves) j) (kind_at kinds j)) → IsLeafKind g p.blocks kind →
    (length more ≡ i + 1) × ((j : ℕ) → Within (i + 1) j → IsLeafKind g (leaf_at (map (λ (q : PartitionValue). q.blocks) leaves) j) (kind_at more j))
kinds-next g leaves i p kinds more kind is one e before here = grind (arith, length-append kinds (kind ∷ []), kinds-more g, blocks-at leaves i p is)

-- the kinds of all leaves
pub kinds-all : (g : Graph) (leaves : List PartitionValue) (i : ℕ) (kinds : List LeafKind) → i ≡ length leaves → length kinds ≡ i →
    ((j : ℕ) → Within i j → IsLeafKind g (leaf_at (map (λ (q : PartitionValue). q.blocks) leaves) j) (kind_at kinds j)) → AreLeafKinds g (map (λ (q : PartitionValue). q.blocks) leaves) kinds
kinds-all g leaves i kinds all e right = grind (arith, length-map)
