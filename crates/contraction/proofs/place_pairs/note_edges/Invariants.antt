use Rattle.graph_core.proofs.from_counting.Common.{◌≡◌, ℕ, length, take, nat_lt, ◌&&◌, list_any, Within, mem, item}
use Rattle.graph_core.proofs.Common.{are_ends}
use Rattle.contraction.proofs.place_pairs.note_edges.Given as goal

abbrev pub invariant-loop-edge : goal.invariant-loop-edge
invariant-loop-edge l = (i j : ℕ) → Within (length l.rows) i → mem (item l.rows i) j ≡ (nat_lt i j && list_any (are_ends i j) (take l.edge-index l.ends))
