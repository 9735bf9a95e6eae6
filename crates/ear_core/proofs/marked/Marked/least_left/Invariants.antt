use Rattle.graph_core.proofs.from_counting.Common.{◌≡◌, ℕ, true, Within}
use Rattle.two_ears.specs.from_match_search.Common.{marks}
use Rattle.ear_core.proofs.marked.Marked.least_left.Given as goal

-- the edges so far are marked
abbrev pub invariant-loop-k : goal.invariant-loop-k
invariant-loop-k l = (e : ℕ) → Within l.k e → marks l.self.mark.items e ≡ true
