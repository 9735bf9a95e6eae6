use Rattle.std.proofs.Common.{arith}
use Rattle.barrier_kit.proofs.shores.add_class_cuts.Goals as goal

pub returns : goal.returns
returns c = grind arith
