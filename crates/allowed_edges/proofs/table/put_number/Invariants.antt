use Rattle.graph_core.proofs.from_counting.Common.{◌≡◌, ℕ, ◌==◌, ◌&&◌, ◌||◌, length, map, take, mem}
use Rattle.match_core.proofs.MatchingEdges.{edge_of}
use Rattle.allowed_edges.specs.EdgeTables.{numbers_at}
use Rattle.allowed_edges.proofs.table.put_number.Given as goal

abbrev pub invariant-loop-i : goal.invariant-loop-i
invariant-loop-i l = record {
  same : length l.block.items ≡ length l.initial.block.items;
  each : (e v : ℕ) → mem (numbers_at l.block e) v ≡ (mem (numbers_at l.initial.block e) v || (mem (map edge_of (take l.i l.m.rows)) e && l.number == v));
}
