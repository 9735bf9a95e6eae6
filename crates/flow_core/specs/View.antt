-- How the code's net is seen: its nodes and its list of arcs, within the limits.
-- Stated by: flow_core.
use Rattle.std.specs.Prelude.{◌≡◌, ℕ, List, map}
use Rattle.flow_core.specs.Nets.{Arc, Net, IsBounded, total_capacity}
use Rattle.flow_core.specs.declared.arc.Arc.{Arc as StoredArc}

-- the arc with these ends and this capacity
abbrev pub arc_of : StoredArc → Arc
arc_of arc = record { a = arc.a; b = arc.b; capacity = arc.capacity }

-- the net of nodes 1 to k with these arcs
abbrev pub net_of : ℕ → List StoredArc → Net
net_of k arcs = record { nodes = k; arcs = map arc_of arcs }

-- a net within its limits, and its total capacity
pub record HasTotal (net : Net) (total : ℕ) : Type 0 where
  pub bounded : IsBounded net
  pub sum : total ≡ total_capacity net
