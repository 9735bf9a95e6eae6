use Rattle.std.proofs.Common.{arith}
use Rattle.tree_core.proofs.leaf_partitions.leaves.Goals as goal

pub returns : goal.returns
returns c = grind arith
