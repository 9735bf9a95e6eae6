use Rattle.graph_core.proofs.from_counting.Common.{◌≡◌, ◌+◌, length, mem}
use Rattle.graph_core.proofs.Common.{graph_of}
use Rattle.match_search.specs.Common.{MarksMates, marks, numbers}
use Rattle.match_search.proofs.marked.marks_of.Given as goal

abbrev pub invariant-loop-k : goal.invariant-loop-k
invariant-loop-k l = record {
  long : length l.mark.items ≡ length l.ends + 1;
  marking : MarksMates (graph_of l.n l.ends) (numbers l.mate) (marks l.mark.items) (mem l.seen) l.k;
}
