use Rattle.allowed_edges.proofs.from_counting.Common.{refl, subst, mem}
use Rattle.graph_core.proofs.Common.{Graph, IsBipartite}
use Rattle.graph_facts.proofs.facts.Facts.is_bipartite.Goals as goal

pub returns-in-Some : goal.returns-in-Some
returns-in-Some c = (
  λ _. subst (λ (g : Graph). IsBipartite g) c.self.view_is (mem c.in-Some.field-0, λ e w. c.self.invariant.side_is c.in-Some.field-0 c.in-Some.is e w (c.keeps_limits.ensures.multigraph.no_loop e w)),
  λ _. refl,
)
