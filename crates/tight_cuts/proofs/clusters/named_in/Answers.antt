use Rattle.std.proofs.Common.{arith}
use Rattle.tree_core.proofs.from_contraction.QuotientValues.{few-blocks}
use Rattle.tight_cuts.proofs.ClustersAtPlaces.{name-listed}
use Rattle.tight_cuts.proofs.clusters.named_in.Goals as goal

pub contains-requires : goal.contains-requires
contains-requires c = grind (arith, name-listed c.args.p.now.order c.args.p.now.blocks c.keeps_partition.ensures.partition.partition c.loop-i.i c.name_of.result c.block.result)

pub overflow_cast-i : goal.overflow_cast-i
overflow_cast-i c = grind (arith, few-blocks c.args.p.now)

pub overflow_add-i : goal.overflow_add-i
overflow_add-i c = grind (arith, few-blocks c.args.p.now)

pub with-places-requires : goal.with-places-requires
with-places-requires c = grind (arith, few-blocks c.args.p.now)

pub loop-i-preserved : goal.loop-i-preserved
loop-i-preserved c = grind (arith, name-listed c.args.p.now.order c.args.p.now.blocks c.keeps_partition.ensures.partition.partition c.loop-i.i c.name_of.result c.block.result)
