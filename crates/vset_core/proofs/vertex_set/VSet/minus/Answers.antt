use Rattle.vset_core.proofs.Words.{mem-minus}
use Rattle.vset_core.proofs.vertex_set.VSet.minus.Goals as goal

pub returns : goal.returns
returns c = mem-minus c.self.inside.word c.o.inside.word c.args.self c.args.o c.self.view_is c.o.view_is c.self.invariant c.o.invariant
