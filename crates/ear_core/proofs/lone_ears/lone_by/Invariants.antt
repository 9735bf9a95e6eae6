use Rattle.graph_core.proofs.from_counting.Common.{◌≡◌, ◌≢◌, ℕ, true, Within, mem, Set}
use Rattle.two_ears.specs.from_match_search.Common.{marks}
use Rattle.ear_core.specs.Common.{IsPerfectBy, is_met, is_open}
use Rattle.ear_core.proofs.lone_ears.lone_by.Given as goal

-- no such matching for the vertices so far
abbrev pub invariant-loop-k : goal.invariant-loop-k
invariant-loop-k l = record {
  same : l.stage ≡ l.fn.stage;
  none : (u : ℕ) → Within l.k u → mem l.met u ≡ true → (v : ℕ) → u ≢ v → is_met l.g (marks l.mark) v ≡ true → (m : Set) → IsPerfectBy l.g (is_open l.g (marks l.mark) u v) m → ⊥;
}
