-- G - R, by rows of neighbours: what the search of the engine reads.
-- Stated by: match_search. Used by: match_core.
use Rattle.std.specs.Prelude.{◌≡◌, ◌≢◌, ◌↔◌, ℕ, ◌≤◌, ◌&&◌, false, true, not, nat_lt, nat_le, length, List}
use Rattle.graph_core.specs.from_counting.Common.{Within, Set, mem, item}
use Rattle.graph_core.specs.Common.{Graph, HasEnds, IsGraph, size}
use Rattle.match_search.specs.declared.instance.Instance.{Instance}

-- the vertex v touches w: the row of v contains a member of w
abbrev pub Touches : Instance → ℕ → ℕ → Type 0
Touches s v w = (u : ℕ) × (mem (item s.rows.items v) u ≡ true) × (mem (item s.members.items w) u ≡ true)

-- the instance is g - r: vertices that are left touch if and only if an edge joins them; loops do
-- not matter. Each vertex is a member of itself, and its only one if it is not a blossom
pub record IsInstance (g : Graph) (r : Set) (s : Instance) : Type 0 where
  pub graph : IsGraph g
  pub few : g.order ≤ 128
  pub one_each : length s.rows.items ≡ g.order
  pub members_each : length s.members.items ≡ g.order
  pub left : (v : ℕ) → mem s.left v ≡ ((nat_lt 0 v && nat_le v g.order) && not (r v))
  pub blossoms_in : (v : ℕ) → mem s.blossoms v ≡ true → Within g.order v
  pub own : (v : ℕ) → Within g.order v → r v ≡ false → mem (item s.members.items v) v ≡ true
  pub single : (v w : ℕ) → Within g.order v → r v ≡ false → mem s.blossoms v ≡ false → mem (item s.members.items v) w ≡ true → v ≡ w
  pub joined : (v w : ℕ) → Within g.order v → Within g.order w → r v ≡ false → r w ≡ false → v ≢ w → Touches s v w → (d : ℕ) × Within (size g) d × HasEnds g d v w
  pub touched : (d v w : ℕ) → Within (size g) d → HasEnds g d v w → Within g.order v → Within g.order w → r v ≡ false → r w ≡ false → v ≢ w → Touches s v w

-- near contains the vertices that are left and that v touches
abbrev pub AreNear : Instance → ℕ → List ℕ → Type 0
AreNear s v near = (w : ℕ) → (mem near w ≡ true) ↔ ((mem s.left w ≡ true) × Touches s v w)
