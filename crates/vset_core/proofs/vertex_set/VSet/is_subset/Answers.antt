use Rattle.vset_core.proofs.Words.{minus-subset}
use Rattle.vset_core.proofs.vertex_set.VSet.is_subset.Goals as goal

pub returns : goal.returns
returns c = minus-subset c.self.inside.word c.o.inside.word c.args.self c.args.o c.self.view_is c.o.view_is c.self.invariant c.o.invariant
