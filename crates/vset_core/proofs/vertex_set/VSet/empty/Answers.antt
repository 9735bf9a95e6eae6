use Rattle.vset_core.proofs.Words.{members-zero}
use Rattle.vset_core.proofs.vertex_set.VSet.empty.Goals as goal

pub returns : goal.returns
returns c = members-zero
