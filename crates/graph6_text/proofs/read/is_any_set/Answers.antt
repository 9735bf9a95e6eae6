use Rattle.std.proofs.Common.{arith}
use Rattle.graph6_text.specs.Common.{bits_of}
use Rattle.graph6_text.proofs.Choosing.{any_set-end, any_set-more}
use Rattle.graph6_text.proofs.SixBits.{length-bits_of}
use Rattle.graph6_text.proofs.read.is_any_set.Goals as goal

pub returns-then-is_set : goal.returns-then-is_set
returns-then-is_set c = let step = any_set-more (bits_of c.args.«data».now) c.loop-k.k c.is_set.result c.is_set.ensures in grind (arith, step)

pub loop-k-preserved : goal.loop-k-preserved
loop-k-preserved c = let step = any_set-more (bits_of c.args.«data».now) c.loop-k.k c.is_set.result c.is_set.ensures in grind (arith, step)

pub returns : goal.returns
returns c = let many = length-bits_of c.args.«data».now in let none = any_set-end (bits_of c.args.«data».now) c.loop-k.k (omega arith) in grind (arith, none)
