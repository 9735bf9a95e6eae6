use Rattle.graph_core.proofs.from_counting.Common.{◌≡◌, ◌<◌, ◌||◌, length, All, find, mem}
use Rattle.two_ears.specs.from_match_search.Common.{marks}
use Rattle.ear_core.proofs.faults.first_used.Given as goal

-- the edges that are left decide
abbrev pub invariant-edges : goal.invariant-edges
invariant-edges l = record {
  same : find (λ e. marks l.mark e || mem l.used e) l.edges ≡ find (λ e. marks l.mark e || mem l.used e) l.rest;
  below : All (λ e. e < length l.mark) l.rest;
}

abbrev pub decreases-edges : goal.decreases-edges
decreases-edges l = length l.rest
