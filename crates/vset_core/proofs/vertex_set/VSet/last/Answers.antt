use Rattle.std.proofs.Common.{arith}
use Rattle.vset_core.proofs.Ends.{empty_word}
use Rattle.vset_core.proofs.Halves.{greatest_high, greatest_low}
use Rattle.vset_core.proofs.vertex_set.VSet.last.Goals as goal

pub returns-then-high-ne0-clause-some : goal.returns-then-high-ne0-clause-some
returns-then-high-ne0-clause-some c = (greatest_high c.self.inside.word c.args.self c.self.view_is c.self.invariant (let n = c.if-high-ne0.true in omega arith)).0

pub returns-then-low-ne0-clause-some : goal.returns-then-low-ne0-clause-some
returns-then-low-ne0-clause-some c = (greatest_low c.self.inside.word c.args.self c.self.view_is c.self.invariant c.if-high-ne0.false (let n = c.if-low-ne0.true in omega arith)).0

pub returns-clause-none : goal.returns-clause-none
returns-clause-none c = let low = c.if-low-ne0.false in let high = c.if-high-ne0.false in empty_word c.self.inside.word c.args.self c.self.view_is (omega arith)
