use Rattle.vset_core.proofs.Words.{mem-and}
use Rattle.vset_core.proofs.vertex_set.VSet.meet.Goals as goal

pub returns : goal.returns
returns c = mem-and c.self.inside.word c.o.inside.word c.args.self c.args.o c.self.view_is c.o.view_is c.self.invariant c.o.invariant
