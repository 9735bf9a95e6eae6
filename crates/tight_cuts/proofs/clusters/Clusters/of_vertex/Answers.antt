use Rattle.graph_core.proofs.from_counting.Common.{arith, common_steps, item, mem}
use Rattle.graph_core.proofs.Common.{place_in, union_of_blocks}
use Rattle.tight_cuts.proofs.clusters.Clusters.of_vertex.Goals as goal

pub overflow_sub-place : goal.overflow_sub-place
overflow_sub-place c = grind (arith, place_in c.args.p.now.order c.args.p.now.blocks c.keeps_partition.ensures.partition.partition c.args.v)

pub index-requires : goal.index-requires
index-requires c = grind (arith, place_in c.args.p.now.order c.args.p.now.blocks c.keeps_partition.ensures.partition.partition c.args.v)

pub returns : goal.returns
returns c = grind (arith, place_in, item, common_steps, union_of_blocks, mem)
