use Rattle.graph_core.proofs.from_counting.Common.{◌≡◌, ◌||◌, ℕ, All, length, mem, Within}
use Rattle.graph_core.proofs.Common.{size}
use Rattle.two_ears.specs.from_match_search.Common.{marks}
use Rattle.ear_core.specs.Common.{IsMarked}
use Rattle.ear_core.proofs.marked.Marked.add_edges.Given as goal

-- the edges marked and those left are all
abbrev pub invariant-edges : goal.invariant-edges
invariant-edges l = record {
  marked : IsMarked l.g l.self;
  each : (i : ℕ) → (marks l.self.mark.items i || mem l.rest i) ≡ (marks l.initial.self.mark.items i || mem l.edges i);
  within : All (Within (size l.g)) l.rest;
}

abbrev pub decreases-edges : goal.decreases-edges
decreases-edges l = length l.rest
