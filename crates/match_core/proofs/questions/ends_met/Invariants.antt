use Rattle.graph_core.proofs.from_counting.Common.{◌≡◌, ℕ, ◌+◌, length, take, mem}
use Rattle.match_search.specs.Common.{marks, MeetOnce}
use Rattle.match_core.proofs.questions.ends_met.Given as goal

abbrev pub invariant-loop-edge : goal.invariant-loop-edge
invariant-loop-edge l = record {
  long : length l.mark.items ≡ length l.ends + 1;
  edges : (i : ℕ) → marks l.mark.items i ≡ mem (take l.edge-index l.edges) i;
  once : MeetOnce l.g (marks l.mark.items) (mem l.met);
}
