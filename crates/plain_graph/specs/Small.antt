-- The graphs that the plain program takes.
-- Stated by: plain_graph, engine_tests.
use Rattle.std.specs.Prelude.{◌≤◌}
use Rattle.graph_core.specs.Common.{Graph, size}

-- at most 10 vertices and 16 edges
pub record IsSmall (g : Graph) : Type 0 where
  pub vertices : g.order ≤ 10
  pub edges : size g ≤ 16
