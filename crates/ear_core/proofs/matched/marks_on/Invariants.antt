use Rattle.graph_core.proofs.from_counting.Common.{◌≡◌, ℕ, length, true, mem}
use Rattle.two_ears.specs.from_match_core.Common.{edges_of}
use Rattle.two_ears.specs.from_match_search.Common.{marks}
use Rattle.ear_core.proofs.matched.marks_on.Given as goal

-- the marked edges are marked on the stage and edges of the matching
abbrev pub invariant-loop-i : goal.invariant-loop-i
invariant-loop-i l = record {
  long : length l.both.items ≡ length l.mark;
  marked : (e : ℕ) → marks l.both.items e ≡ true → marks l.mark e ≡ true;
  held : (e : ℕ) → marks l.both.items e ≡ true → mem (edges_of l.m) e ≡ true;
}
