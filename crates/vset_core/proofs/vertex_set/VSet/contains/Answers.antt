use Rattle.vset_core.proofs.Words.{tested_bit}
use Rattle.vset_core.proofs.vertex_set.VSet.contains.Goals as goal

pub returns : goal.returns
returns c = tested_bit c.self.inside.word c.bit.result c.args.self c.self.view_is c.self.invariant c.args.v c.requires.0 c.bit.ensures
