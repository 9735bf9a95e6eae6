use Rattle.std.proofs.Common.{arith}
use Rattle.graph6_text.proofs.SixBits.{bit_at_place}
use Rattle.graph6_text.proofs.digits.is_set.Goals as goal

pub returns : goal.returns
returns c = grind (arith, bit_at_place c.args.bytes.now c.args.k c.requires.within)
