use Rattle.graph_core.proofs.from_counting.Common.{arith, map-append}
use Rattle.graph6_text.proofs.Columns.{column_more}
use Rattle.graph6_text.proofs.pairs.push_column.Goals as goal

pub loop-a-preserved : goal.loop-a-preserved
loop-a-preserved c = grind (arith, column_more, map-append)
