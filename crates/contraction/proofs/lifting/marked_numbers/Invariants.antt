use Rattle.graph_core.proofs.from_counting.Common.{◌≡◌, rising_list}
use Rattle.match_core.specs.from_match_search.Common.{marks}
use Rattle.contraction.proofs.lifting.marked_numbers.Given as goal

abbrev pub invariant-loop-i : goal.invariant-loop-i
invariant-loop-i l = l.numbers ≡ rising_list l.i (marks l.mark)
