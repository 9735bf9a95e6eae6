-- How the code's growing graph is seen.
-- Stated by: grow_gen.
use Rattle.graph_core.specs.Common.{graph_of}
use Rattle.grow_gen.specs.declared.growing.Growing.{Growing}
use Rattle.grow_gen.specs.Growth.{Growth}

-- its graph and its classes
abbrev pub growth_of : Growing → Growth
growth_of g = record { graph = graph_of g.order g.edges.items; in_a = g.in_a; in_b = g.in_b }
