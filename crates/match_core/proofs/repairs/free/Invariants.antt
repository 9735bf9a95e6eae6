use Rattle.graph_core.proofs.from_counting.Common.{◌≡◌, ℕ, ◌&&◌, ◌==◌, not, nat_lt, nat_le, mem}
use Rattle.match_search.specs.Common.{numbers}
use Rattle.match_core.proofs.repairs.free.Given as goal

abbrev pub invariant-loop-i : goal.invariant-loop-i
invariant-loop-i l = (v : ℕ) → mem l.outer v ≡ ((nat_lt 0 v && nat_le v l.i) && (not (mem l.removed v) && (numbers l.at v == 0)))
