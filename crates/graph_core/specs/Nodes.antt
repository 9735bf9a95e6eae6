-- The search tree as the code keeps it: item v - 1 of the list is what it keeps of vertex v. A
-- state of the search, like Growth.
-- Stated by: graph_core.
use Rattle.std.specs.Prelude.{◌≡◌, ℕ, ◌+◌, ◌-◌, ◌<◌, List, length, not, slice_index_or}
use Rattle.vset_core.specs.from_counting.Common.{Within, is_odd, Set}
use Rattle.graph_core.specs.Components.{is_least}
use Rattle.graph_core.specs.Graph.{Graph}
use Rattle.graph_core.specs.Trees.{IsForest}
use Rattle.graph_core.specs.declared.tree.TreeNode.{TreeNode}

-- what is kept of v
abbrev pub node_at : List TreeNode → ℕ → TreeNode
node_at nodes v = slice_index_or nodes (v - 1) (record { parent = 0; depth = 0 })

-- the parent of v
abbrev pub parent_at : List TreeNode → ℕ → ℕ
parent_at nodes v = (node_at nodes v).parent

-- the depth of v
abbrev pub depth_at : List TreeNode → ℕ → ℕ
depth_at nodes v = (node_at nodes v).depth

-- the depth of v is even
abbrev pub is_even_at : List TreeNode → Set
is_even_at nodes v = not (is_odd (depth_at nodes v))

-- each vertex of positive depth has a parent, whose depth is one less
pub record IsRooted (nodes : List TreeNode) : Type 0 where
  pub within : (v : ℕ) → Within (length nodes) v → 0 < depth_at nodes v → Within (length nodes) (parent_at nodes v)
  pub deeper : (v : ℕ) → Within (length nodes) v → 0 < depth_at nodes v →
      depth_at nodes v ≡ depth_at nodes (parent_at nodes v) + 1

-- a search tree for each component of g - s, with its least vertex as the root
abbrev pub AreTrees : Graph → Set → List TreeNode → Type 0
AreTrees g s nodes = IsForest g s (is_least g s) (parent_at nodes) (depth_at nodes)
