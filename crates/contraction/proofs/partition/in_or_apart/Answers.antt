use Rattle.std.proofs.Common.{arith}
use Rattle.contraction.proofs.BlockUnions.{apart-met}
use Rattle.contraction.proofs.partition.in_or_apart.Goals as goal

pub returns-else-is_subset : goal.returns-else-is_subset
returns-else-is_subset c = grind (arith, apart-met c.args.block c.args.set c.meet.result c.meet.ensures)
