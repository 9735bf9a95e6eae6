use Rattle.barrier_kit.proofs.ShoreFacts.{barrier_cuts-canonical, barrier_shores-tight}
use Rattle.barrier_kit.proofs.laws.barrier_cuts_law.Goals as goal

pub returns-clause-tight : goal.returns-clause-tight
returns-clause-tight c = barrier_shores-tight

pub returns-clause-canonical : goal.returns-clause-canonical
returns-clause-canonical c = barrier_cuts-canonical
