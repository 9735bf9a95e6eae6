use Rattle.graph_core.proofs.from_counting.Common.{◌-◌, arith, count_le}
use Rattle.match_search.proofs.missable.exposed_count.Goals as goal

pub overflow_add-found : goal.overflow_add-found
overflow_add-found c = grind (arith, count_le (c.loop-v.v - 1))
