use Rattle.vset_core.proofs.Words.{mem-without}
use Rattle.vset_core.proofs.vertex_set.VSet.without.Goals as goal

pub returns : goal.returns
returns c = mem-without c.self.inside.word c.bit.result c.args.self c.self.view_is c.self.invariant c.args.v c.requires c.bit.ensures
