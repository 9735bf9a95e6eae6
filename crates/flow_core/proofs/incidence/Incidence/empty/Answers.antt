use Rattle.flow_core.proofs.Reading.{rows_of-empty}
use Rattle.flow_core.proofs.incidence.Incidence.empty.Goals as goal

pub returns-clause-empty : goal.returns-clause-empty
returns-clause-empty c = rows_of-empty c.loop-v.rows.items c.loop-v.invariant.1
