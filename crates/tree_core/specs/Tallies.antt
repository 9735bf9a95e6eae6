-- The kinds of the leaves of a tight cut decomposition, and how many leaves there are of each
-- (Lovász 1987). A leaf is told by its quotient, which has one edge for each two adjacent blocks:
-- a brace where the quotient is bipartite, and a brick where it is not.
-- Stated by: tree_core, decomposer, report_text, bench_reports.
-- Used by: tree_check, mcg6_lines, bench_outcomes, bench_top, theorems.
use Rattle.std.specs.Prelude.{◌≡◌, ℕ, ◌-◌, List, length, slice_index_or, count_by, Bool, true, false, not}
use Rattle.graph_core.specs.from_counting.Common.{Within}
use Rattle.graph_core.specs.Common.{Graph, IsBipartite, quotient}
use Rattle.tree_core.specs.LeafMaps.{leaf_at}
use Rattle.tree_core.specs.declared.tallies.LeafKind.{LeafKind}
use Rattle.tree_core.specs.declared.tallies.LeafKind.TheVariants.{Brick, Brace}
use Rattle.tree_core.specs.declared.tallies.Tally.{Tally}

-- the kind of a leaf with this quotient
abbrev pub IsKindOf : Graph → LeafKind → Type 0
IsKindOf q Brace = IsBipartite q
IsKindOf q Brick = ¬ IsBipartite q

-- the kind of the leaf at this partition
abbrev pub IsLeafKind : Graph → List (List ℕ) → LeafKind → Type 0
IsLeafKind g p kind = IsKindOf (quotient g p) kind

-- the kind of leaf i, counted from 1
abbrev pub kind_at : List LeafKind → ℕ → LeafKind
kind_at kinds i = slice_index_or kinds (i - 1) Brick

-- the kinds of the leaves at these partitions, in order
pub record AreLeafKinds (g : Graph) (ps : List (List (List ℕ))) (kinds : List LeafKind) : Type 0 where
  pub each_one : length kinds ≡ length ps
  pub right : (i : ℕ) → Within (length ps) i → IsLeafKind g (leaf_at ps i) (kind_at kinds i)

-- the kind is brick
abbrev pub is_brick : LeafKind → Bool
is_brick Brick = true
is_brick Brace = false

-- how many leaves there are, how many of them are bricks, and how many are braces
abbrev pub tally_of : List LeafKind → Tally
tally_of kinds = record {
  leaves = length kinds;
  bricks = count_by is_brick kinds;
  braces = count_by (λ kind. not (is_brick kind)) kinds;
}

-- the count of the leaves at these partitions
pub record IsTally (g : Graph) (ps : List (List (List ℕ))) (tally : Tally) : Type 0 where
  pub kinds : List LeafKind
  pub right : AreLeafKinds g ps kinds
  pub is : tally ≡ tally_of kinds
