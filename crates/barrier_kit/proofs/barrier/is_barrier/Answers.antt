use Rattle.graph_core.proofs.from_counting.Common.{eq-eqb, eqb-true, count_by, arith, count_mem_length}
use Rattle.barrier_kit.proofs.CutLists.{odd_parts-counted}
use Rattle.barrier_kit.proofs.barrier.is_barrier.Goals as goal

pub returns : goal.returns
returns c = grind (arith, count_by, odd_parts-counted, count_mem_length, eqb-true, eq-eqb)
