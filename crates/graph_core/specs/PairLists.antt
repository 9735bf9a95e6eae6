-- Lists of perfect matchings that show which pairs of edges lie together in one. Not a notion of
-- the literature.
-- Stated by: allowed_edges. Used by: tight_cuts.
use Rattle.std.specs.Prelude.{◌≡◌, ℕ, ◌-◌, true, false, List, ◌&&◌, length, All, Any}
use Rattle.vset_core.specs.from_counting.Common.{Within, none, mem, item, IsRisingIn}
use Rattle.graph_core.specs.Graph.{Graph, size}
use Rattle.graph_core.specs.Matchings.{IsPerfect, Together}

-- perfect matchings such that any two edges that lie together are both in one of them (if e = f, e
-- is in one of them)
pub record IsPairList (g : Graph) (ms : List (List ℕ)) : Type 0 where
  pub rising : All (IsRisingIn (size g)) ms
  pub perfect : All (λ m. IsPerfect g none (mem m)) ms
  pub both : (e f : ℕ) → Within (size g) e → Within (size g) f → Together g e f → Any (λ m. (mem m e ≡ true) × (mem m f ≡ true)) ms

-- matching k of the list, counted from 1, contains an edge or a pair of edges that no earlier one
-- contains
pub record HoldsNew (ms : List (List ℕ)) (k : ℕ) : Type 0 where
  pub one : ℕ
  pub other : ℕ
  pub holds : (mem (item ms k) one ≡ true) × (mem (item ms k) other ≡ true)
  pub new : (j : ℕ) → Within (k - 1) j → (mem (item ms j) one && mem (item ms j) other) ≡ false

-- each matching of the list contains something new
abbrev pub IsLean : List (List ℕ) → Type 0
IsLean ms = (k : ℕ) → Within (length ms) k → HoldsNew ms k
