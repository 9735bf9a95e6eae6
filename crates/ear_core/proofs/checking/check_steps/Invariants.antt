use Rattle.graph_core.proofs.from_counting.Common.{◌+◌, ◌≤◌, ℕ, length, map, Option, AllByRecursion, count}
use Rattle.graph_core.proofs.Common.{size}
use Rattle.two_ears.specs.from_match_search.Common.{marks}
use Rattle.ear_core.specs.Common.{FitsStep, IsAskedBefore, PlainWhy, IsJudged, IsMarked, IsStage, step_of}
use Rattle.ear_core.proofs.checking.check_steps.Given as goal

-- what is answered of the steps that are left is answered of all; each step so far has marked an
-- edge
abbrev pub invariant-steps : goal.invariant-steps
invariant-steps l = record {
  marked : IsMarked l.g l.marked;
  stage : IsStage l.g (marks l.marked.mark.items);
  fits : AllByRecursion (FitsStep l.g.order (size l.g)) (map step_of l.rest);
  few : l.number + 1 ≤ count (size l.g) (marks l.marked.mark.items);
  asked : IsAskedBefore l.g (marks l.marked.mark.items) l.stage;
  answer : (answer : Option (ℕ × PlainWhy)) → IsJudged l.g (marks l.marked.mark.items) l.number (map step_of l.rest) answer → IsJudged l.g (marks l.initial.marked.mark.items) 0 (map step_of l.steps) answer;
}

abbrev pub decreases-steps : goal.decreases-steps
decreases-steps l = length l.rest
