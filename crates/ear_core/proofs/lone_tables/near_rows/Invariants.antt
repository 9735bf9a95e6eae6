use Rattle.graph_core.proofs.from_counting.Common.{◌≡◌, ◌&&◌, ℕ, not, length, Within, item, mem, some}
use Rattle.graph_core.proofs.Common.{has_ends}
use Rattle.two_ears.specs.from_match_search.Common.{marks}
use Rattle.ear_core.proofs.lone_tables.near_rows.Given as goal

-- the neighbours by the edges so far
abbrev pub invariant-loop-k : goal.invariant-loop-k
invariant-loop-k l = record {
  long : length l.rows.items ≡ l.g.order;
  each : (u v : ℕ) → Within l.g.order u → mem (item l.rows.items u) v ≡ some l.k (λ e. not (marks l.mark e) && has_ends l.g u v e);
}
