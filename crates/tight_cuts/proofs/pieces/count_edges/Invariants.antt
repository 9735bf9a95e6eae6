use Rattle.graph_core.proofs.from_counting.Common.{◌≡◌, ℕ, ◌+◌, length, take, map, bit, mem}
use Rattle.barrier_kit.proofs.from_match_core.MatchingEdges.{edge_of}
use Rattle.tight_cuts.specs.Common.{at_place}
use Rattle.tight_cuts.proofs.pieces.count_edges.Given as goal

abbrev pub invariant-loop-i : goal.invariant-loop-i
invariant-loop-i l = record {
  long : length l.row.items ≡ length l.initial.row.items;
  each : (e : ℕ) → at_place l.row.items e ≡ at_place l.initial.row.items e + bit (mem (map edge_of (take l.i l.m.rows)) e);
}
