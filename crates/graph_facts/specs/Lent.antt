-- The graph that is owned or borrowed.
-- Stated by: graph_facts, tree_core.
use Rattle.graph_core.specs.Common.{Graph}
use Rattle.graph_facts.specs.declared.lent.Lent.{Lent}
use Rattle.graph_facts.specs.declared.lent.Lent.TheVariants.{Own, Of}

-- the graph itself
abbrev pub graph_in : Lent → Graph
graph_in (Own g) = g
graph_in (Of g) = g.now
