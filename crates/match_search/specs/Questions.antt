-- Perfect matchings that contain given edges.
-- Stated by: match_core. Used by: match_search, allowed_edges, ear_core.
use Rattle.std.specs.Prelude.{◌≡◌, ℕ, true, List}
use Rattle.graph_core.specs.from_counting.Common.{Within, bit, Set, none, mem}
use Rattle.graph_core.specs.Common.{Graph, degree, IsPerfect}

-- each edge of the list is in m
abbrev pub HoldsAll : List ℕ → Set → Type 0
HoldsAll es m = (e : ℕ) → mem es e ≡ true → m e ≡ true

-- some perfect matching of g contains each edge of the list
abbrev pub HasPerfectWith : Graph → List ℕ → Type 0
HasPerfectWith g es = (m : Set) × IsPerfect g none m × HoldsAll es m

-- no two of the edges c share a vertex, and met is the set of their ends
abbrev pub MeetOnce : Graph → Set → Set → Type 0
MeetOnce g c met = (v : ℕ) → Within g.order v → degree g c v ≡ bit (met v)
