use Rattle.contraction.proofs.EdgeRows.{lists-empty}
use Rattle.contraction.proofs.edge_rows.EdgeRows.empty.Goals as goal

pub returns-clause-empty : goal.returns-clause-empty
returns-clause-empty c = lists-empty c.loop-place.rows.items c.loop-place.invariant.1
