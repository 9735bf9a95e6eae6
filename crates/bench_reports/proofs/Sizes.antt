-- A matching that is maximum has as many edges as rows, and misses the vertices that are not ends
-- of its rows. Each edge has two ends at different vertices, so the missed vertices and twice the
-- edges make all vertices.
use Rattle.move_text.proofs.from_counting.Common.{◌≡◌, ◌≤◌, ℕ, ◌+◌, ◌-◌, ◌*◌, length, ◌∙◌, arith, length-map, total_zero, count_complement, count_mem_length, count, none, mem}
use Rattle.graph_core.proofs.Common.{Graph, IsGraph, size, IsMaximum, missed_count, missed_edges}
use Rattle.match_core.specs.Common.{MatchingValue, KeepsMatching, IsOf, edges_of}
use Rattle.match_core.specs.declared.matching.MatchRow.{MatchRow}
use Rattle.match_core.proofs.MatchingEdges.{rows-rise}
use Rattle.bench_outcomes.specs.Common.{HasMaximum}

module _ (g : Graph) (is : IsGraph g) (m : MatchingValue) (of : IsOf g m) (keeps : KeepsMatching m) (most : IsMaximum g none (mem (edges_of m))) where
  edge : MatchRow → ℕ
  edge row = row.edge

  -- one edge a row
  pub rows_count : count (size g) (mem (edges_of m)) ≡ length m.rows
  rows_count = count_mem_length (size g) (edges_of m) (rows-rise g m of keeps) ∙ length-map m.rows (λ (row : MatchRow). row.edge)

  -- the missed vertices and two ends a row are all vertices
  pub missed_and_ends : missed_count g none (mem (edges_of m)) + 2 * length m.rows ≡ g.order
  missed_and_ends = grind (arith, missed_edges g none (mem (edges_of m)) is most.is, count_complement g.order none, total_zero g.order, rows_count)

  -- so there are at most all vertices
  pub ends_within : (edges : ℕ) → edges ≡ length m.rows → 2 * edges ≤ g.order
  ends_within edges same = let all = missed_and_ends in omega arith

  pub has_maximum : HasMaximum g (length m.rows) (g.order - 2 * length m.rows)
  has_maximum = record { matching = mem (edges_of m); maximum = most; size_is = rows_count; misses = let a = missed_and_ends in omega arith }
