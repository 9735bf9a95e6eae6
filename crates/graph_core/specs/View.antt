-- How the code's multigraph is seen: its order and its list of ends, within the limits of size.
-- Stated by: graph_core, grow_gen, match_search, match_core, graph_facts and 5 more.
-- Used by: tight_cuts, bench_outcomes, theorems, plain_graph.
use Rattle.std.specs.Prelude.{ℕ, ◌≤◌, ◌==◌, ◌&&◌, ◌||◌, Bool, List, map}
use Rattle.graph_core.specs.Graph.{Graph, IsMultigraph, size}
use Rattle.graph_core.specs.Rows.{AreRows}
use Rattle.graph_core.specs.declared.ends.Ends.{Ends}

-- the two ends as a pair
abbrev pub pair_of : Ends → ℕ × ℕ
pair_of e = (e.a, e.b)

-- the two ends are u and v, in either order
abbrev pub are_ends : ℕ → ℕ → Ends → Bool
are_ends u v e = (e.a == u && e.b == v) || (e.a == v && e.b == u)

-- the graph of that order with these edges
abbrev pub graph_of : ℕ → List Ends → Graph
graph_of n edges = record { order = n; ends = map pair_of edges }

-- a multigraph of at most 128 vertices and 2,048 edges
pub record IsWithinLimits (g : Graph) : Type 0 where
  pub vertices : g.order ≤ 128
  pub edges : size g ≤ 2048
  pub multigraph : IsMultigraph g

-- the invariant of the code's multigraph: the limits of size, and its rows are those of the
-- adjacency matrix
pub record IsKept (g : Graph) (rows : List (List ℕ)) : Type 0 where
  pub limits : IsWithinLimits g
  pub neighbours : AreRows g rows
