-- The same leaf under names of blocks: two partitions of one graph whose blocks correspond so that
-- adjacency is preserved (Lovász 1987, "up to multiplicities of edges").
-- Stated by: move_laws. Used by: uncross, mcg6_lines, theorems.
use Rattle.std.specs.Prelude.{◌≡◌, ℕ, ◌==◌, List, length, map}
use Rattle.graph_core.specs.from_counting.Common.{count, Within, last_of, mem, rising_list}
use Rattle.graph_core.specs.Common.{Graph, block, place, blocks_adjacent}
use Rattle.tree_core.specs.Common.{name, position}

-- the place of the block of q that the names give block i
abbrev pub image : List (List ℕ) → List ℕ → ℕ → ℕ
image q names i = place q (name names i)

-- the names give each block of p, in order, a block of q, each block of q once, and preserve
-- adjacency in both directions
pub record IsSameLeaf (g : Graph) (p q : List (List ℕ)) (names : List ℕ) : Type 0 where
  pub one_each : length names ≡ length p
  pub named : (i : ℕ) → Within (length p) i → Within (length q) (image q names i) × (last_of (block q (image q names i)) ≡ name names i)
  pub once : (k : ℕ) → Within (length q) k → count (length p) (λ i. image q names i == k) ≡ 1
  pub adjacent : (i j : ℕ) → Within (length p) i → Within (length p) j → blocks_adjacent g p i j ≡ blocks_adjacent g q (image q names i) (image q names j)

-- the name of the block of q that the names give the block of p with v
abbrev pub to_name : (p : List (List ℕ)) → List ℕ → ℕ → ℕ
to_name p names v = name names (place p v)

-- the name of the block of p that the names give the block of q with v
abbrev pub from_name : (p q : List (List ℕ)) → List ℕ → ℕ → ℕ
from_name p q names v = last_of (block p (position (map (place q) names) (place q v)))

-- the inverse names: for each block of q the name of the block of p that the names take to it
abbrev pub turned_names : (p q : List (List ℕ)) → List ℕ → List ℕ
turned_names p q names = map (λ b. from_name p q names (last_of b)) q

-- the image of a set of blocks of p: the vertices in the blocks of q that correspond to blocks in x
abbrev pub image_shore : ℕ → (p q : List (List ℕ)) → List ℕ → List ℕ → List ℕ
image_shore n p q names x = rising_list n (λ v. mem x (from_name p q names v))

-- the names after blocks of p were merged to r and their images to s: for each block of r the
-- name of the block of s with its image
abbrev pub merged_names : (p r s : List (List ℕ)) → List ℕ → List ℕ
merged_names p r s names = map (λ b. last_of (block s (place s (to_name p names (last_of b))))) r
