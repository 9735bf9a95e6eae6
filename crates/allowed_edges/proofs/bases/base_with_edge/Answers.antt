use Rattle.std.proofs.Common.{◌∙◌}
use Rattle.allowed_edges.proofs.bases.base_with_edge.Goals as goal

pub returns-in-Some-clause-some : goal.returns-in-Some-clause-some
returns-in-Some-clause-some c = λ m q. c.in_ok-base.ensures m (c.in-Some.is ∙ q)
