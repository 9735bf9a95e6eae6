-- Search trees of G - S: each vertex is a root or a child of its parent. Any textbook.
-- Stated by: graph_core.
use Rattle.std.specs.Prelude.{◌≡◌, ℕ, zero, suc, ◌+◌, ◌⊎◌, true, false, List, [], ◌∷◌, ◌++◌}
use Rattle.vset_core.specs.from_counting.Common.{Within, Set}
use Rattle.graph_core.specs.Graph.{Graph}
use Rattle.graph_core.specs.Walks.{adjacent}

-- v is a child of its parent: an edge joins them, and v is one step deeper
pub record Hangs (g : Graph) (s : Set) (parent depth : ℕ → ℕ) (v : ℕ) : Type 0 where
  pub joins : adjacent g s (parent v) v ≡ true
  pub deeper : depth v ≡ depth (parent v) + 1

-- each vertex outside s is one of the roots and has depth 0, or is a child of its parent
pub record IsForest (g : Graph) (s roots : Set) (parent depth : ℕ → ℕ) : Type 0 where
  pub stands : (v : ℕ) → Within g.order v → s v ≡ false → ((roots v ≡ true) × (depth v ≡ 0)) ⊎ Hangs g s parent depth v

-- the vertices on the way up from v, k steps, without v
abbrev pub way_up : (ℕ → ℕ) → ℕ → ℕ → List ℕ
way_up parent zero v = []
way_up parent (suc k) v = parent v ∷ way_up parent k (parent v)

-- the vertices on the way down to v, k steps, without the first
abbrev pub way_down : (ℕ → ℕ) → ℕ → ℕ → List ℕ
way_down parent zero v = []
way_down parent (suc k) v = way_down parent k (parent v) ++ v ∷ []

-- the vertex k steps up from v
abbrev pub above : (ℕ → ℕ) → ℕ → ℕ → ℕ
above parent zero v = v
above parent (suc k) v = above parent k (parent v)
