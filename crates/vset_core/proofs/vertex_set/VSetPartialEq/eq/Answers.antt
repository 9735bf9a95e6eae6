use Rattle.vset_core.proofs.Words.{same_word}
use Rattle.vset_core.proofs.vertex_set.VSetPartialEq.eq.Goals as goal

pub returns : goal.returns
returns c = same_word c.self.inside.word c.o.inside.word c.args.self.now c.args.o.now c.self.view_is c.o.view_is c.self.invariant c.o.invariant
