-- Mates as the search of the engine represents them.
-- Stated by: match_core.
use Rattle.std.specs.Prelude.{◌≡◌, ◌≢◌, ◌<◌, ◌⊎◌, ℕ, List, Some, true, map, slice_get}
use Rattle.graph_core.specs.from_counting.Common.{Set, none, rising_list}
use Rattle.graph_core.specs.Common.{Graph, size, IsMatching}
use Rattle.match_search.specs.Common.{HasMates, HoldsMatching, numbers}
use Rattle.match_search.specs.declared.instance.Instance.{Instance}
use Rattle.match_core.specs.MatchingRows.{is_clear, row_at}
use Rattle.match_core.specs.declared.matching.MatchRow.{MatchRow}

-- the instance is g - r, and the mates are those of a matching m of it
pub record HoldsMates (g : Graph) (r : Set) (s : Instance) (mate : List ℕ) : Type 0 where
  pub m : Set
  pub held : HoldsMatching g r m s mate

-- the rows are the edges of a matching m, which has the mates if any matching has them
pub record ArePairs (g : Graph) (mate : List ℕ) (rows : List MatchRow) : Type 0 where
  pub m : Set
  pub matching : IsMatching g none m
  pub rows_are : rows ≡ map (row_at g) (rising_list (size g) m)
  pub mates : (r f : Set) → HasMates g r f (numbers mate) → HasMates g r m (numbers mate)

-- among the first k rows, a vertex with a mate is joined to it by a row that meets no vertex of x,
-- and a vertex with the mate 0 is in no such row
pub record NamesRows (x : Set) (rows : List MatchRow) (mate : List ℕ) (k : ℕ) : Type 0 where
  pub met : (v : ℕ) → numbers mate v ≢ 0 →
      (j : ℕ) × (row : MatchRow) × (j < k) × (slice_get rows j ≡ Some row) ×
      (is_clear x row ≡ true) ×
      (((row.a ≡ v) × (row.b ≡ numbers mate v)) ⊎ ((row.a ≡ numbers mate v) × (row.b ≡ v)))
  pub missed : (v : ℕ) → numbers mate v ≡ 0 →
      (j : ℕ) (row : MatchRow) → j < k → slice_get rows j ≡ Some row → is_clear x row ≡ true →
      (row.a ≢ v) × (row.b ≢ v)
