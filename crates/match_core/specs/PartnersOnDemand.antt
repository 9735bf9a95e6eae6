-- Rows of partners that are computed one at a time.
-- Stated by: match_core. Used by: tight_cuts.
use Rattle.std.specs.Prelude.{◌≡◌, ℕ, ◌+◌, List, length, true}
use Rattle.graph_core.specs.from_counting.Common.{Within, Set, item, mem}
use Rattle.graph_core.specs.Common.{Graph}
use Rattle.match_search.specs.Common.{HasMates, numbers}
use Rattle.match_core.specs.Partners.{are_partners}

-- the graph, and the vertices that are removed from it
pub record RowsValue : Type 0 where
  pub graph : Graph
  pub removed : List ℕ

-- the mates are those of a matching of g without the removed vertices, and the row of each known
-- vertex is exactly its set of partners
pub record AreKnownRows (g : Graph) (removed mate known : List ℕ) (rows : List (List ℕ)) : Type 0 where
  pub long : length mate ≡ g.order + 1
  pub mates : (f : Set) × HasMates g (mem removed) f (numbers mate)
  pub one_each : length rows ≡ g.order
  pub row_is : (u v : ℕ) → Within g.order u → Within g.order v → mem known u ≡ true → mem (item rows u) v ≡ are_partners g (mem removed) u v
