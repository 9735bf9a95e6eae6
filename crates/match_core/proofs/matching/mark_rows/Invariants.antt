use Rattle.graph_core.proofs.from_counting.Common.{◌≡◌, ℕ, length, take, map, ◌||◌, mem}
use Rattle.match_search.specs.Common.{marks}
use Rattle.match_core.proofs.MatchingEdges.{edge_of}
use Rattle.match_core.proofs.matching.mark_rows.Given as goal

abbrev pub invariant-loop-row : goal.invariant-loop-row
invariant-loop-row l = record {
  same : length l.mark.items ≡ length l.initial.mark.items;
  each : (i : ℕ) → marks l.mark.items i ≡ (marks l.initial.mark.items i || mem (map edge_of (take l.row-index l.rows)) i);
}
