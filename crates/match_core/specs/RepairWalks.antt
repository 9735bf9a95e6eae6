-- The found matching of a repair, and the start of its walk.
-- Stated by: match_core.
use Rattle.std.specs.Prelude.{◌≡◌, ℕ, ◌+◌, ◌<◌, ◌==◌, not, false, List, length}
use Rattle.graph_core.specs.from_counting.Common.{Set}
use Rattle.graph_core.specs.Common.{IsMatching, IsPerfect, missed_count, graph_of}
use Rattle.graph_core.specs.declared.ends.Ends.{Ends}
use Rattle.match_search.specs.Common.{IsGraphRow, MarksMates, NamesEdges, Misses, numbers}

-- the row names for each vertex its edge in a perfect matching of g - r
pub record NamesPerfect (n : ℕ) (r : Set) (ends : List Ends) (at : List ℕ) : Type 0 where
  pub m : Set
  pub long : length at ≡ n + 1
  pub perfect : IsPerfect (graph_of n ends) r m
  pub named : NamesEdges ends m at (length ends)

-- among the first k edges, the row names for each vertex the least edge that joins it to its mate
pub record NamesPairs (n : ℕ) (ends : List Ends) (mate at : List ℕ) (k : ℕ) : Type 0 where
  pub m : Set
  pub marking : MarksMates (graph_of n ends) (numbers mate) m (λ v. not (numbers at v == 0)) k
  pub named : NamesEdges ends m at k
  pub later : (i : ℕ) → k < i → m i ≡ false

-- the matching m misses x and exactly one other vertex, w is perfect, and the rows name for each
-- vertex its edges of m and of w
pub record StartsWalk (n : ℕ) (r m w : Set) (ends : List Ends) (at other : List ℕ) (x : ℕ) : Type 0 where
  pub row : IsGraphRow n ends
  pub at_long : length at ≡ n + 1
  pub named : NamesEdges ends m at (length ends)
  pub other_long : length other ≡ n + 1
  pub other_named : NamesEdges ends w other (length ends)
  pub matching : IsMatching (graph_of n ends) r m
  pub perfect : IsPerfect (graph_of n ends) r w
  pub two : missed_count (graph_of n ends) r m ≡ 2
  pub missed : Misses (graph_of n ends) r m x
