use Rattle.graph_core.proofs.from_counting.Common.{◌≡◌, ℕ, ◌==◌, ◌||◌, length, take, list_any}
use Rattle.match_core.specs.from_match_search.Common.{marks}
use Rattle.match_core.specs.declared.matching.MatchRow.{MatchRow}
use Rattle.contraction.specs.LeastEdges.{least_at}
use Rattle.contraction.proofs.lifting.mark_least.Given as goal

abbrev pub invariant-loop-i : goal.invariant-loop-i
invariant-loop-i l = record {
  same : length l.mark.items ≡ length l.initial.mark.items;
  each : (e : ℕ) → marks l.mark.items e ≡ (marks l.initial.mark.items e || list_any (λ (row : MatchRow). least_at l.q row.edge == e) (take l.i l.m.rows));
}
