use Rattle.graph_core.proofs.from_counting.Common.{◌≡◌, ℕ, false, Within, mem}
use Rattle.two_ears.specs.from_match_search.Common.{marks}
use Rattle.ear_core.specs.Common.{is_left, row_edge}
use Rattle.ear_core.proofs.tracing.left_vertex.Given as goal

-- no vertex so far is left
abbrev pub invariant-loop-k : goal.invariant-loop-k
invariant-loop-k l = (v : ℕ) → Within l.k v → is_left (mem l.met) (marks l.mark) (row_edge l.m.rows) (mem l.used) v ≡ false
