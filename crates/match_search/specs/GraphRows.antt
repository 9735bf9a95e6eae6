-- A graph as the row of the ends of its edges, and rows over its vertices.
-- Stated by: match_search, match_core.
use Rattle.std.specs.Prelude.{◌≡◌, ◌≢◌, ℕ, ◌+◌, ◌-◌, ◌<◌, ◌≤◌, ◌⊎◌, true, length, List}
use Rattle.graph_core.specs.from_counting.Common.{Within, Set}
use Rattle.match_search.specs.Rows.{numbers, end_a, end_b}
use Rattle.graph_core.specs.declared.ends.Ends.{Ends}

-- the ends are from 1 to n
pub record AreEnds (n : ℕ) (ends : List Ends) : Type 0 where
  pub a : (k : ℕ) → k < length ends → Within n (end_a ends k)
  pub b : (k : ℕ) → k < length ends → Within n (end_b ends k)

-- a graph within the limits of the code's sets and numbers; loops are allowed
pub record IsGraphRow (n : ℕ) (ends : List Ends) : Type 0 where
  pub vertices : n ≤ 128
  pub few : length ends ≤ 2048
  pub within : AreEnds n ends

-- the row has for each vertex a marked edge that meets it, or 0 if none of the first k edges does
pub record NamesEdges (ends : List Ends) (m : Set) (at : List ℕ) (k : ℕ) : Type 0 where
  pub met : (v : ℕ) → numbers at v ≢ 0 → Within (length ends) (numbers at v) × (m (numbers at v) ≡ true) × ((end_a ends (numbers at v - 1) ≡ v) ⊎ (end_b ends (numbers at v - 1) ≡ v))
  pub missed : (v : ℕ) → numbers at v ≡ 0 → (j : ℕ) → j < k → m (j + 1) ≡ true → (end_a ends j ≢ v) × (end_b ends j ≢ v)
