use Rattle.graph_core.proofs.from_counting.Common.{◌≡◌, ◌-◌, count}
use Rattle.match_search.specs.Common.{marks}
use Rattle.match_core.proofs.partner_table.marked_count.Given as goal

abbrev pub invariant-loop-k : goal.invariant-loop-k
invariant-loop-k l = l.found ≡ count (l.k - 1) (marks l.mark)
