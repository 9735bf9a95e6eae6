use Rattle.std.proofs.lemmas.Nat.{or_lt}
use Rattle.vset_core.proofs.Words.{mem-with, one_fits}
use Rattle.vset_core.proofs.vertex_set.VSet.with.Goals as goal

pub invariant_of-result : goal.invariant_of-result
invariant_of-result c = or_lt 128 c.self.inside.word c.bit.result c.self.invariant (one_fits c.args.v c.bit.result c.requires c.bit.ensures)

pub returns : goal.returns
returns c = mem-with c.self.inside.word c.bit.result c.args.self c.self.view_is c.self.invariant c.args.v c.requires c.bit.ensures
