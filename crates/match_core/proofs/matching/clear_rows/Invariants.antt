use Rattle.graph_core.proofs.from_counting.Common.{◌≡◌, take, filter, mem}
use Rattle.match_core.specs.Common.{is_clear}
use Rattle.match_core.proofs.matching.clear_rows.Given as goal

abbrev pub invariant-loop-row : goal.invariant-loop-row
invariant-loop-row l = l.kept.items ≡ filter (is_clear (mem l.removed)) (take l.row-index l.rows)
