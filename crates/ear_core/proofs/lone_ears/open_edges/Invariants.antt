use Rattle.graph_core.proofs.from_counting.Common.{◌≡◌, ◌+◌, ℕ, length, Within, mem, pair_set}
use Rattle.graph_core.proofs.Common.{size}
use Rattle.two_ears.specs.from_match_search.Common.{marks}
use Rattle.ear_core.specs.Common.{is_open, is_met}
use Rattle.ear_core.proofs.lone_ears.open_edges.Given as goal

-- the edges so far are marked right
abbrev pub invariant-loop-k : goal.invariant-loop-k
invariant-loop-k l = record {
  long : length l.row.items ≡ size l.g + 1;
  each : (u v : ℕ) → ((w : ℕ) → mem l.met w ≡ is_met l.g (marks l.mark) w) → ((w : ℕ) → mem l.pair w ≡ pair_set u v w) → (e : ℕ) → Within l.k e → marks l.row.items e ≡ is_open l.g (marks l.mark) u v e;
}
