use Rattle.graph_core.proofs.from_counting.Common.{◌≡◌, ◌||◌, ℕ, length, take, list_any, Within, item, mem}
use Rattle.matching_digraph.specs.MatchedPairs.{row_joins}
use Rattle.matching_digraph.proofs.arcs.add_mates.Given as goal

abbrev pub invariant-loop-i : goal.invariant-loop-i
invariant-loop-i l = (u v : ℕ) → Within (length l.rows) u → mem (item l.rows u) v ≡ (mem (item l.initial.rows u) v || list_any (row_joins u v) (take l.i l.m.rows))
