use Rattle.std.proofs.Common.{arith}
use Rattle.mcg6_encoder.proofs.Beneath.{keeps_all, keeps_more}
use Rattle.mcg6_encoder.proofs.simple.simple_beneath.Goals as goal

pub loop-done-preserved : goal.loop-done-preserved
loop-done-preserved c = grind (arith, keeps_more)

pub returns : goal.returns
returns c = keeps_all c.args.g.now c.loop-done.simple c.loop-done.done (omega arith) c.loop-done.invariant.keeps
