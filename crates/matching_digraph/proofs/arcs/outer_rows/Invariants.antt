use Rattle.graph_core.proofs.from_counting.Common.{◌≡◌, ◌&&◌, not, ℕ, length, Within, item, mem, none}
use Rattle.graph_core.proofs.Common.{adjacent}
use Rattle.matching_digraph.proofs.arcs.outer_rows.Given as goal

abbrev pub invariant-loop-k : goal.invariant-loop-k
invariant-loop-k l = record {
  long : length l.rows.items ≡ l.k;
  each : (v w : ℕ) → Within l.k v → mem (item l.rows.items v) w ≡ (not (mem l.side v) && adjacent l.g none v w);
}
