use Rattle.std.proofs.lemmas.Nat.{or_lt}
use Rattle.vset_core.proofs.Words.{mem-or}
use Rattle.vset_core.proofs.vertex_set.VSet.union.Goals as goal

pub invariant_of-result : goal.invariant_of-result
invariant_of-result c = or_lt 128 c.self.inside.word c.o.inside.word c.self.invariant c.o.invariant

pub returns : goal.returns
returns c = mem-or c.self.inside.word c.o.inside.word c.args.self c.args.o c.self.view_is c.o.view_is c.self.invariant c.o.invariant
