use Rattle.graph_core.proofs.from_counting.Common.{◌≡◌, ℕ, length, take, ◌||◌, mem}
use Rattle.match_search.specs.Common.{marks}
use Rattle.match_search.proofs.rows.mark_places.Given as goal

abbrev pub invariant-loop-place : goal.invariant-loop-place
invariant-loop-place l = record {
  same : length l.mark.items ≡ length l.initial.mark.items;
  each : (i : ℕ) → marks l.mark.items i ≡ (marks l.initial.mark.items i || mem (take l.place-index l.places) i);
}
