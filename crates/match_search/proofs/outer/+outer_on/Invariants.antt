use Rattle.graph_core.proofs.from_counting.Common.{length, count, mem}
use Rattle.match_search.proofs.outer.+outer_on.Given as goal

abbrev pub decreases-outer_on : goal.decreases-outer_on
decreases-outer_on l = count (length l.instance.now.rows.items) (mem l.instance.now.left)
