use Rattle.graph_core.proofs.from_counting.Common.{◌≡◌, ℕ, ◌<◌, false, map, rising_list, mem, Set}
use Rattle.graph_core.proofs.Common.{graph_of}
use Rattle.match_search.specs.Common.{MarksMates, numbers}
use Rattle.match_core.specs.Common.{row_at}
use Rattle.match_core.proofs.matching.paired_rows.Given as goal

abbrev pub invariant-loop-k : goal.invariant-loop-k
invariant-loop-k l = record {
  m : Set;
  above : (e : ℕ) → l.k < e → m e ≡ false;
  marking : MarksMates (graph_of l.n l.ends) (numbers l.mate) m (mem l.seen) l.k;
  rows_are : l.rows.items ≡ map (row_at (graph_of l.n l.ends)) (rising_list l.k m);
}
