use Rattle.std.proofs.Common.{arith}
use Rattle.barrier_kit.proofs.ListedClasses.{class-row}
use Rattle.barrier_kit.proofs.canonical_partition.class_of.Goals as goal

pub returns : goal.returns
returns c = grind (arith, class-row c.args.c.now c.full.result c.of.result c.minus-class.result c.args.a c.keeps_covered.ensures.limits.vertices c.rises.ensures)
