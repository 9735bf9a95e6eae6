-- The rows of a graph's adjacency matrix: for each vertex, in order, the set of its neighbours. Any
-- textbook; parallel edges count once, since a row is a set.
-- Stated by: graph_core, match_search, match_core. Used by: separation_kit.
use Rattle.std.specs.Prelude.{◌≡◌, ℕ, List, length}
use Rattle.vset_core.specs.from_counting.Common.{Within, item, mem, none}
use Rattle.graph_core.specs.Graph.{Graph}
use Rattle.graph_core.specs.Walks.{adjacent}

-- there is one row for each vertex, and row v holds exactly the vertices that an edge joins to v
pub record AreRows (g : Graph) (rows : List (List ℕ)) : Type 0 where
  pub one_each : length rows ≡ g.order
  pub adjacent_is : (v w : ℕ) → Within g.order v → mem (item rows v) w ≡ adjacent g none v w
