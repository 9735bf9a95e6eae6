use Rattle.std.proofs.Common.{refl, arith}
use Rattle.vset_core.proofs.Ends.{empty_word}
use Rattle.vset_core.proofs.Halves.{split_low, split_high}
use Rattle.vset_core.proofs.vertex_set.VSet.split_first.Goals as goal

pub returns-then-low-ne0-clause-some : goal.returns-then-low-ne0-clause-some
returns-then-low-ne0-clause-some c = split_low c.self.inside.word c.args.self _ c.self.view_is c.self.invariant c.joined.result refl (let n = c.if-low-ne0.true in omega arith) c.joined.ensures

pub returns-then-high-ne0-clause-some : goal.returns-then-high-ne0-clause-some
returns-then-high-ne0-clause-some c =
    split_high c.self.inside.word c.args.self _ c.self.view_is c.self.invariant c.joined-then-high-ne0.result refl c.if-low-ne0.false (let n = c.if-high-ne0.true in omega arith) c.joined-then-high-ne0.ensures

pub returns-clause-none : goal.returns-clause-none
returns-clause-none c = let low = c.if-low-ne0.false in let high = c.if-high-ne0.false in empty_word c.self.inside.word c.args.self c.self.view_is (omega arith)
