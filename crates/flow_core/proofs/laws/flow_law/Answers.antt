use Rattle.flow_core.proofs.Duality.{flow-le-value_of, reached_least}
use Rattle.flow_core.proofs.laws.flow_law.Goals as goal

pub returns-clause-bound : goal.returns-clause-bound
returns-clause-bound c = flow-le-value_of

pub returns-clause-least : goal.returns-clause-least
returns-clause-least c = reached_least
