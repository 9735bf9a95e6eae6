use Rattle.std.proofs.Common.{arith}
use Rattle.std.specs.Slice.Iter.{chunks_rest}
use Rattle.graph6_text.proofs.SixBits.{packed_more, packed_all}
use Rattle.graph6_text.proofs.digits.push_bytes.Goals as goal

pub loop-six-preserved : goal.loop-six-preserved
loop-six-preserved c = grind (arith, packed_more)

pub returns : goal.returns
returns c = packed_all c.args.bits.now (chunks_rest c.loop-six.six-iterator) c.args.text.now.items c.loop-six.text.items c.in-None.ensures.steps.1.0 c.loop-six.invariant.0
