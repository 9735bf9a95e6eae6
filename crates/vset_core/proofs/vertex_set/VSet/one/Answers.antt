use Rattle.vset_core.proofs.Words.{members-one}
use Rattle.vset_core.proofs.vertex_set.VSet.one.Goals as goal

pub returns : goal.returns
returns c = members-one c.args.v c.bit.result c.requires c.bit.ensures
