-- The underlying simple graph: parallel edges are kept once. Any textbook.
-- Stated by: mcg6_encoder.
use Rattle.std.specs.Prelude.{◌≡◌, ℕ, if◌then◌else◌}
use Rattle.counting.specs.Common.{none}
use Rattle.graph_core.specs.Common.{Graph, with_edge, IsSimple, adjacent}

-- h is the underlying simple graph of g: it has the same vertices, two of them are adjacent in h if
-- and only if they are in g, and no two edges of h join the same two vertices
pub record IsBeneath (g h : Graph) : Type 0 where
  pub order : h.order ≡ g.order
  pub simple : IsSimple h
  pub adjacent_pairs : (u v : ℕ) → adjacent h none u v ≡ adjacent g none u v

-- h with an edge added between a and b, unless they are adjacent already
abbrev pub with_new_edge : Graph → ℕ → ℕ → Graph
with_new_edge h a b = if adjacent h none a b then h else with_edge h a b
