use Rattle.graph_core.proofs.BlockSets.{meet_tight_at, union_tight_at, no_edge_at}
use Rattle.graph_core.proofs.laws.uncrossing_at_law.Goals as goal

pub returns-clause-tight : goal.returns-clause-tight
returns-clause-tight c g p x y is pp cov tx ty odd = (meet_tight_at g is p pp cov x y tx ty odd, union_tight_at g is p pp cov x y tx ty odd)

pub returns-clause-edges : goal.returns-clause-edges
returns-clause-edges c g p x y is pp cov tx ty odd = no_edge_at g is p pp cov x y tx ty odd
