use Rattle.allowed_edges.proofs.from_counting.Common.{ap, ◌∙◌, length, arith, none}
use Rattle.graph_core.proofs.Common.{component_count, Graph, component_count_le, length-components}
use Rattle.graph_facts.proofs.facts.Facts.components.Goals as goal

pub overflow_cast-result : goal.overflow_cast-result
overflow_cast-result c = grind (arith, length-components c.self.inside.graph.now none, component_count_le c.self.inside.graph.now none)

pub returns : goal.returns
returns c = c.len.ensures ∙ ap length c.self.invariant.parts_are ∙ length-components c.self.inside.graph.now none ∙ ap (λ (g : Graph). component_count g none) c.self.view_is
