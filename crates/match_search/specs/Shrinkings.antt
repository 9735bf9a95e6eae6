-- An instance with a blossom shrunk to its base.
-- Stated by: match_search, match_core.
use Rattle.std.specs.Prelude.{◌≡◌, ◌≢◌, ◌↔◌, ℕ, ◌&&◌, ◌||◌, ◌==◌, not, true, List, length}
use Rattle.graph_core.specs.from_counting.Common.{Within, Set, mem, item}
use Rattle.match_search.specs.declared.instance.Instance.{Instance}
use Rattle.match_search.specs.declared.instance.Unshrunk.{Unshrunk}

-- the row is the union of the rows of the vertices of x
abbrev pub IsUnionOf : List (List ℕ) → Set → List ℕ → Type 0
IsUnionOf rows x row = (u : ℕ) → (mem row u ≡ true) ↔ ((v : ℕ) × (x v ≡ true) × (mem (item rows v) u ≡ true))

-- after is the list of rows with the row of z as the union of those of the vertices of x
pub record IsGathered (before : List (List ℕ)) (x : Set) (z : ℕ) (after : List (List ℕ)) : Type 0 where
  pub one_each : length after ≡ length before
  pub own : IsUnionOf before x (item after z)
  pub others : (v : ℕ) → Within (length before) v → z ≢ v → item after v ≡ item before v

-- h is s with the cycle shrunk to the base, which has the neighbours and the members of the cycle
pub record IsShrinking (s : Instance) (cycle : Set) (base : ℕ) (h : Instance) : Type 0 where
  pub rows : IsGathered s.rows.items cycle base h.rows.items
  pub members : IsGathered s.members.items cycle base h.members.items
  pub blossoms : (v : ℕ) → mem h.blossoms v ≡ ((mem s.blossoms v && not (cycle v)) || (base == v))
  pub left : (v : ℕ) → mem h.left v ≡ (mem s.left v && not (cycle v && not (base == v)))

-- the values of s that a shrinking to the base overwrites
pub record IsUnshrunk (s : Instance) (base : ℕ) (before : Unshrunk) : Type 0 where
  pub row : before.row ≡ item s.rows.items base
  pub members : before.members ≡ item s.members.items base
  pub blossoms : before.blossoms ≡ s.blossoms
  pub left : before.left ≡ s.left

-- h is s with the row and the members of the base, the blossoms and the vertices left restored
pub record IsPutBack (s : Instance) (base : ℕ) (before : Unshrunk) (h : Instance) : Type 0 where
  pub rows_long : length h.rows.items ≡ length s.rows.items
  pub members_long : length h.members.items ≡ length s.members.items
  pub row : item h.rows.items base ≡ before.row
  pub members : item h.members.items base ≡ before.members
  pub other_rows : (v : ℕ) → Within (length s.rows.items) v → base ≢ v → item h.rows.items v ≡ item s.rows.items v
  pub other_members : (v : ℕ) → Within (length s.members.items) v → base ≢ v → item h.members.items v ≡ item s.members.items v
  pub blossoms : h.blossoms ≡ before.blossoms
  pub left : h.left ≡ before.left

-- the two have the same values
pub record AreAlike (s h : Instance) : Type 0 where
  pub rows_long : length h.rows.items ≡ length s.rows.items
  pub members_long : length h.members.items ≡ length s.members.items
  pub rows : (v : ℕ) → Within (length s.rows.items) v → item h.rows.items v ≡ item s.rows.items v
  pub members : (v : ℕ) → Within (length s.members.items) v → item h.members.items v ≡ item s.members.items v
  pub blossoms : h.blossoms ≡ s.blossoms
  pub left : h.left ≡ s.left
