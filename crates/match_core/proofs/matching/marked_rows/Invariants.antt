use Rattle.graph_core.proofs.from_counting.Common.{◌≡◌, map, rising_list}
use Rattle.graph_core.proofs.Common.{graph_of}
use Rattle.match_search.specs.Common.{marks}
use Rattle.match_core.specs.Common.{row_at}
use Rattle.match_core.proofs.matching.marked_rows.Given as goal

abbrev pub invariant-loop-k : goal.invariant-loop-k
invariant-loop-k l = l.rows.items ≡ map (row_at (graph_of l.n l.ends)) (rising_list l.k (marks l.mark))
