use Rattle.vset_core.proofs.from_counting.Common.{rules, ◌≡◌, ℕ, ◌∙◌, ap, length, List, [], arith, mem, none}
use Rattle.graph_core.specs.Common.{component_count, components, Graph, IsGraph, AreRows, graph_of}
use Rattle.graph_core.proofs.Components.{component_count_le, length-components}
use Rattle.graph_core.proofs.graph.MultiGraph.components.Goals.{After-len}
use Rattle.graph_core.proofs.graph.MultiGraph.components.Goals as goal

-- the list of the components is as long as there are components
as_long : (g : Graph) (rows kept parts : List (List ℕ)) (removed : List ℕ) → IsGraph g → AreRows g kept → rows ≡ kept → removed ≡ [] →
    ((g : Graph) → IsGraph g → AreRows g rows → parts ≡ components g (mem removed)) → length parts ≡ component_count g none
as_long g rows kept parts removed is are same empty found = grind (arith, length-components g none)

counted : (c : After-len) → c.len.result ≡ component_count (graph_of c.self.inside.order c.self.inside.edges.items) none
counted c =
    let g = graph_of c.self.inside.order c.self.inside.edges.items in
    c.len.ensures ∙ as_long g c.deref.result.now c.self.inside.rows.items c.in_ok-parts.parts c.empty.result c.self.invariant.limits.multigraph.ends c.self.invariant.neighbours c.deref.ensures.value c.empty.ensures c.in_ok-parts.ensures

pub overflow_cast-result : goal.overflow_cast-result
overflow_cast-result c = search (rules, counted, component_count_le, none)

pub returns : goal.returns
returns c = counted ((goal.at.returns c).After-len) ∙ ap (λ (g : Graph). component_count g none) c.self.view_is
