use Rattle.std.proofs.Common.{◌≡◌, ◌+◌, ℕ, true, length}
use Rattle.graph_core.proofs.Common.{size}
use Rattle.match_core.specs.from_match_search.Common.{marks}
use Rattle.allowed_edges.specs.PairTables.{NamesEdge}
use Rattle.allowed_edges.proofs.varied.named_marks.Given as goal

abbrev pub invariant-loop-i : goal.invariant-loop-i
invariant-loop-i l = record {
  long : length l.mark.items ≡ size l.g + 1;
  named : (e : ℕ) → marks l.mark.items e ≡ true → NamesEdge l.g l.at e;
}
