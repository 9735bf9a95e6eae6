-- Lists of pairs of vertices.
-- Stated by: two_ears, theorems. Used by: ear_core.
use Rattle.std.specs.Prelude.{ℕ, ◌+◌, ◌≤◌, List, [], ◌∷◌, ◌==◌, not}
use Rattle.graph_core.specs.from_counting.Common.{bit, Within, IsIn, Set, pair_set}

-- the two vertices of a pair
abbrev pub set_of_pair : ℕ × ℕ → Set
set_of_pair p = pair_set p.0 p.1

-- how often v is a vertex of a pair of the list
abbrev pub pairs_at : List (ℕ × ℕ) → ℕ → ℕ
pairs_at [] v = 0
pairs_at (p ∷ ps) v = (bit (p.0 == v) + bit (p.1 == v)) + pairs_at ps v

-- the vertices of the pairs
abbrev pub in_pairs : List (ℕ × ℕ) → Set
in_pairs ps v = not (pairs_at ps v == 0)

-- pairs of vertices 1 to n, all different
pub record AreDisjoint (n : ℕ) (ps : List (ℕ × ℕ)) : Type 0 where
  pub within : (p : ℕ × ℕ) → IsIn p ps → Within n p.0 × Within n p.1
  pub once : (v : ℕ) → Within n v → pairs_at ps v ≤ 1
