use Rattle.std.proofs.Common.{arith}
use Rattle.vset_core.proofs.Ends.{next_bit, no_bit_above, shifted_out}
use Rattle.vset_core.proofs.vertex_set.VSet.next_after.Goals as goal

pub returns-then-v-eq-MOST_VERTICES-clause-none : goal.returns-then-v-eq-MOST_VERTICES-clause-none
returns-then-v-eq-MOST_VERTICES-clause-none c = no_bit_above c.self.inside.word c.args.self c.args.v c.self.view_is c.self.invariant (shifted_out c.self.inside.word c.args.v c.self.invariant (omega arith))

pub returns-then-above-eq0-clause-none : goal.returns-then-above-eq0-clause-none
returns-then-above-eq0-clause-none c = no_bit_above c.self.inside.word c.args.self c.args.v c.self.view_is c.self.invariant (omega arith)

pub returns-clause-some : goal.returns-clause-some
returns-clause-some c = (next_bit c.self.inside.word c.args.self c.args.v c.self.view_is c.self.invariant (omega arith) (omega arith)).0

pub returns-clause-within : goal.returns-clause-within
returns-clause-within c = (next_bit c.self.inside.word c.args.self c.args.v c.self.view_is c.self.invariant (omega arith) (omega arith)).1
