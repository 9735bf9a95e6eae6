use Rattle.graph_core.proofs.from_counting.Common.{◌-◌, arith, count_le}
use Rattle.match_search.specs.Common.{marks}
use Rattle.match_core.proofs.partner_table.marked_count.Goals as goal

pub overflow_add-found : goal.overflow_add-found
overflow_add-found c = grind (arith, count_le (c.loop-k.k - 1) (marks c.args.mark.now))
