use Rattle.std.proofs.Common.{arith}
use Rattle.graph6_text.proofs.SixBits.{weighed_more, weighed_all}
use Rattle.graph6_text.proofs.digits.to_digit.Goals as goal
use Rattle.graph6_text.proofs.digits.to_digit.Goals.{then-bit, else-bit}

pub loop-i-preserved : goal.loop-i-preserved
loop-i-preserved c = grind (arith, weighed_more c.args.bits.now c.loop-i.i c.loop-i.digit c.if-bit.digit c.loop-i-test.true c.requires c.loop-i.invariant.0, then-bit, else-bit)

pub returns-clause-value : goal.returns-clause-value
returns-clause-value c = weighed_all c.args.bits.now c.loop-i.i c.loop-i.digit (omega arith) c.loop-i.invariant.0
