use Rattle.graph_core.proofs.from_counting.Common.{◌+◌, ◌-◌, arith, get_or_from_slice_get, slice_get_within, mem}
use Rattle.match_core.proofs.RowMates.{names_more, names_none}
use Rattle.match_core.proofs.mates.write_rows.Goals.{then-not-contains+then-not-contains-2, else-not-contains, else-not-contains-via-then-not-contains+else-not-contains-2, else-not-contains-via-else-not-contains}
use Rattle.match_core.proofs.mates.write_rows.Goals as goal

pub loop-i-preserved : goal.loop-i-preserved
loop-i-preserved c = grind (arith, get_or_from_slice_get, slice_get_within, then-not-contains+then-not-contains-2, mem, names_more, else-not-contains, else-not-contains-via-then-not-contains+else-not-contains-2, else-not-contains-via-else-not-contains, names_none)
