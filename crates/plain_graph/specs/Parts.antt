-- Odd components, at their least vertices.
-- Stated by: plain_graph.
use Rattle.std.specs.Prelude.{◌&&◌}
use Rattle.allowed_edges.specs.from_counting.Common.{count, is_odd, Set}
use Rattle.graph_core.specs.Common.{is_least, Graph, joined}

-- u is the least vertex of a component of g - s that has an odd number of vertices
unfoldable pub begins_odd_part : Graph → Set → Set
begins_odd_part g s u = is_least g s u && is_odd (count g.order (joined g s u))
