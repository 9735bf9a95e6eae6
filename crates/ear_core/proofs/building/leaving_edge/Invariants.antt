use Rattle.graph_core.proofs.from_counting.Common.{◌≡◌, ◌&&◌, ◌||◌, ℕ, false, not, Within}
use Rattle.graph_core.proofs.Common.{first_end, second_end}
use Rattle.two_ears.specs.from_match_search.Common.{marks}
use Rattle.ear_core.specs.Common.{is_met}
use Rattle.ear_core.proofs.building.leaving_edge.Given as goal

-- no edge so far leads out
abbrev pub invariant-loop-k : goal.invariant-loop-k
invariant-loop-k l = (e : ℕ) → Within l.k e → (not (marks l.marked.mark.items e) && (is_met l.g (marks l.marked.mark.items) (first_end l.g e) || is_met l.g (marks l.marked.mark.items) (second_end l.g e))) ≡ false
