use Rattle.graph_core.proofs.from_counting.Common.{arith, slice_eq-Decides, bytes_eq-Decides}
use Rattle.contraction.proofs.partition.Partition.has_blocks_of.Goals as goal

pub returns : goal.returns
returns c = grind (arith, slice_eq-Decides, bytes_eq-Decides)
