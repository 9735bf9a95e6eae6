use Rattle.graph_core.proofs.from_counting.Common.{◌%◌, ◌==◌, ap, ◌∙◌, length, odd_remainder}
use Rattle.barrier_kit.proofs.barrier.is_odd_set.Goals as goal

pub returns : goal.returns
returns c = ap (λ k. k % 2 == 1) c.len.ensures ∙ odd_remainder (length c.args.set)
