use Rattle.graph_core.proofs.from_counting.Common.{◌≡◌, length, map, AllByRecursion}
use Rattle.graph_core.proofs.Common.{size}
use Rattle.two_ears.specs.from_match_search.Common.{marks}
use Rattle.ear_core.specs.Common.{FitsStep, IsMarked, place_from, step_of}
use Rattle.ear_core.proofs.fault_places.place_from.Given as goal

-- the steps that are left decide
abbrev pub invariant-steps : goal.invariant-steps
invariant-steps l = record {
  marked : IsMarked l.g l.marked;
  fits : AllByRecursion (FitsStep l.g.order (size l.g)) (map step_of l.rest);
  same : place_from l.g (marks l.initial.marked.mark.items) (map step_of l.steps) l.number ≡ place_from l.g (marks l.marked.mark.items) (map step_of l.rest) l.left;
}

abbrev pub decreases-steps : goal.decreases-steps
decreases-steps l = length l.rest
