-- Maximal barriers and elementary graphs (Lovász 1972; Lovász and Plummer, "Matching Theory",
-- sections 5.1 and 5.2).
-- Stated by: theorems.
use Rattle.std.specs.Prelude.{◌≡◌, ℕ, ◌≤◌, Bool, List, ◌&&◌, true}
use Rattle.tree_check.specs.from_counting.Common.{Within, Set, some}
use Rattle.graph_core.specs.Common.{Graph, IsBarrier, Walk, has_ends, is_allowed, size}

-- s is a maximal barrier: s = t for each barrier t ⊇ s
pub record IsMaximalBarrier (g : Graph) (s : Set) : Type 0 where
  pub barrier : IsBarrier g s
  pub maximal : (t : Set) → IsBarrier g t → ((v : ℕ) → Within g.order v → s v ≡ true → t v ≡ true) → (v : ℕ) → Within g.order v → t v ≡ true → s v ≡ true

-- some allowed edge joins a and b
abbrev pub allowed_adjacent : Graph → ℕ → ℕ → Bool
allowed_adjacent g a b = some (size g) (λ e. is_allowed g e && has_ends g a b e)

-- elementary: at least two vertices, and the edges that lie in perfect matchings connect them all
pub record IsElementary (g : Graph) : Type 0 where
  pub two : 2 ≤ g.order
  pub connected : (u v : ℕ) → Within g.order u → Within g.order v → (ws : List ℕ) × Walk (allowed_adjacent g) u ws v
