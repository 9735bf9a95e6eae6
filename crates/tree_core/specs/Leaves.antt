-- The leaves of a tree of cuts, each as the partition at which it stands.
-- Stated by: tree_core, decomposer, move_laws, uncross, mcg6_lines, bench_reports, theorems.
-- Used by: tree_check, bench_outcomes, bench_top.
use Rattle.std.specs.Prelude.{◌≡◌, ◌<◌, ℕ, List, [], ◌∷◌, ◌++◌, length, map}
use Rattle.graph_core.specs.from_counting.Common.{mem, IsRisingIn}
use Rattle.graph_core.specs.Common.{singles, IsUnion}
use Rattle.contraction.specs.Partition.{PartitionValue}
use Rattle.tree_core.specs.Shapes.{Shape, leaf, cut}
use Rattle.tree_core.specs.Derivations.{kept_at, merged_at}
use Rattle.tree_core.specs.declared.path.Side.{Side}
use Rattle.tree_core.specs.declared.path.Side.TheVariants.{Kept, Merged}

-- the partitions at the leaves of the tree at p, in preorder with `kept` before `merged`
abbrev pub leaves_at : ℕ → List (List ℕ) → Shape → List (List (List ℕ))
leaves_at n p leaf = p ∷ []
leaves_at n p (cut x k m) = leaves_at n (kept_at n p x) k ++ leaves_at n (merged_at n p x) m

-- the leaves of a tree over 1 to n
abbrev pub leaves : ℕ → Shape → List (List (List ℕ))
leaves n t = leaves_at n (singles n) t

-- each shore is a nonempty union of blocks at the partition where it stands
abbrev pub StandsAt : ℕ → List (List ℕ) → Shape → Type 0
StandsAt n p leaf = Unit {0}
StandsAt n p (cut x k m) =
    IsRisingIn n x × (0 < length x) × IsUnion n p (mem x) × StandsAt n (kept_at n p x) k × StandsAt n (merged_at n p x) m

-- partitions of 1 to n with these blocks
abbrev pub partitions_of : ℕ → List (List (List ℕ)) → List PartitionValue
partitions_of n ps = map (λ p. record { order = n; blocks = p }) ps

-- the path leads from the root of t, which stands at the partition p, to the root of s, which
-- stands at q
abbrev pub LeadsTo : ℕ → List Side → List (List ℕ) → Shape → List (List ℕ) → Shape → Type 0
LeadsTo n [] p t q s = (p ≡ q) × (t ≡ s)
LeadsTo n (side ∷ path) p leaf q s = ⊥
LeadsTo n (Kept ∷ path) p (cut x k m) q s = LeadsTo n path (kept_at n p x) k q s
LeadsTo n (Merged ∷ path) p (cut x k m) q s = LeadsTo n path (merged_at n p x) m q s
