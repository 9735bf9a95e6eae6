use Rattle.std.proofs.Common.{◌∙◌, ap, arith, map, sym}
use Rattle.graph_core.proofs.Common.{pair_of}
use Rattle.graph6_text.proofs.Columns.{column_pairs-zero, columns_more, columns_all, columns_end}
use Rattle.graph6_text.proofs.pairs.to_pairs.Goals as goal
use Rattle.graph6_text.proofs.pairs.to_pairs.Goals.{else-loop-b-test, then-loop-b-test+in_ok-push_column+else-b-n}

pub loop-b-init : goal.loop-b-init
loop-b-init c = (ap (map pair_of) c.in_ok-pairs.ensures.items ∙ sym column_pairs-zero, omega arith)

pub loop-b-preserved : goal.loop-b-preserved
loop-b-preserved c = grind (arith, columns_more c.loop-b.b (map pair_of c.loop-b.pairs.items) (map pair_of c.push_column.new.pairs.items))

pub returns : goal.returns
returns c = grind (arith, else-loop-b-test, columns_all, then-loop-b-test+in_ok-push_column+else-b-n, columns_end)
