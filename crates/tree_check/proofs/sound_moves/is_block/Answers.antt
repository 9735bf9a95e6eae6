use Rattle.graph_core.proofs.from_counting.Common.{eqb-true, arith, mem}
use Rattle.tree_check.proofs.SoundMoves.{block-of_one}
use Rattle.tree_check.proofs.sound_moves.is_block.Goals as goal

pub returns-then-is_union : goal.returns-then-is_union
returns-then-is_union c one = grind (arith, block-of_one c.args.p.now.order c.args.p.now.blocks c.keeps_partition.ensures.partition.partition (mem c.args.set), eqb-true c.blocks_in.result 1 one)
