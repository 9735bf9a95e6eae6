use Rattle.graph_core.proofs.from_counting.Common.{◌≡◌, not, take, filter, is_subset}
use Rattle.contraction.proofs.partition.blocks_outside.Given as goal

abbrev pub invariant-loop-block : goal.invariant-loop-block
invariant-loop-block l = l.kept.items ≡ filter (λ block. not (is_subset block l.set)) (take l.block-index l.blocks)
