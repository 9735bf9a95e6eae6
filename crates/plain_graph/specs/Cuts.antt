-- Shores with two odd sides.
-- Stated by: plain_graph.
use Rattle.std.specs.Prelude.{Bool, ◌&&◌}
use Rattle.allowed_edges.specs.from_counting.Common.{count, is_odd, Set, complement}
use Rattle.graph_core.specs.Common.{Graph}

-- |x| and |V - x| are odd
abbrev pub has_odd_sides : Graph → Set → Bool
has_odd_sides g x = is_odd (count g.order x) && is_odd (count g.order (complement x))
