use Rattle.graph_core.proofs.Common.{has_ends-from, adjacent-edge, adjacent_from, has_ends-cases}
use Rattle.definition_laws.proofs.components.adjacency_law.Goals as goal

pub returns-clause-edge : goal.returns-clause-edge
returns-clause-edge c g s u v = (
  λ h. let p = adjacent-edge g s u v h in (p.0, p.1, (p.2.0, p.2.1, has_ends-cases g u v p.2.0 p.2.2)),
  λ w. adjacent_from g s u v w.2.0 w.0 w.1 w.2.1 (has_ends-from g u v w.2.0 w.2.2),
)
