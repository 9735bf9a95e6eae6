-- Shores at a partition: unions of blocks, tight at the partition (Lovász 1987).
-- Stated by: graph_core, contraction, tree_core, tight_cuts, move_laws, tree_check and 2 more.
-- Used by: decomposer, theorems.
use Rattle.std.specs.Prelude.{◌≡◌, ℕ, List, length}
use Rattle.vset_core.specs.from_counting.Common.{count, Within, Set, all_in}
use Rattle.graph_core.specs.Graph.{Graph}
use Rattle.graph_core.specs.Tight.{IsTight}
use Rattle.graph_core.specs.Partitions.{block, place, contracted}

-- x is a union of blocks of p, within 1 to n
abbrev pub IsUnion : ℕ → List (List ℕ) → Set → Type 0
IsUnion n p x = (u v : ℕ) → Within n u → Within n v → place p u ≡ place p v → x u ≡ x v

-- the places of the blocks inside x
abbrev pub blocks_in : List (List ℕ) → Set → Set
blocks_in p x i = all_in (block p i) x

-- |blocks_in p x|, the number of blocks of p inside x
abbrev pub block_count : List (List ℕ) → Set → ℕ
block_count p x = count (length p) (blocks_in p x)

-- x is a union of blocks and tight at p: the number of blocks is odd inside and outside, and each
-- perfect matching at p has exactly one edge in the cut of x
pub record IsTightAt (g : Graph) (p : List (List ℕ)) (x : Set) : Type 0 where
  pub union : IsUnion g.order p x
  pub tight : IsTight (contracted g p) (blocks_in p x)
