use Rattle.allowed_edges.proofs.from_counting.Common.{refl, mem}
use Rattle.graph_facts.proofs.covered_graph.Covered.is_bipartite.Goals as goal

pub returns-in-Some : goal.returns-in-Some
returns-in-Some c = (
  λ _. (mem c.in-Some.field-0, λ e w. c.in-Some.ensures.some c.in-Some.field-0 refl e w (c.keeps_covered.ensures.limits.multigraph.no_loop e w)),
  λ _. refl,
)
