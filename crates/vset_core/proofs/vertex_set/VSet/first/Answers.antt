use Rattle.vset_core.proofs.Halves.{least_first}
use Rattle.vset_core.proofs.vertex_set.VSet.first.Goals as goal

pub returns-clause-some : goal.returns-clause-some
returns-clause-some c = least_first c.args.self c.in_ok-v.field-0-1 c.in_ok-v.v c.in_ok-v.ensures.some c.rises.ensures
